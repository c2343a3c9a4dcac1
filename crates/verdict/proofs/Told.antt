-- What a `Result` tells is told of no other: two refusals with one number are the same, and so are two verdicts, two rewritings or two faults that are told
-- alike. So a contract by what is told admits one answer. Assumes nothing.
use mathlib.Core.Path.{◌≡◌, refl, sym, ap, ◌∙◌}
use mathlib.Core.List.{List, [], ◌∷◌}
use lib.ListN.{get_or}
use Prim.Native.Nat.{ℕ}
use native.Mathlib.Omega.{arith}
use Rattle.std.specs.Prelude.{⊤}
use Rattle.std.specs.declared.result.Result.{Result}
use Rattle.std.specs.declared.result.Result.TheVariants.{Ok, Err}
use Rattle.verdict.specs.declared.Answer.{Answer}
use Rattle.verdict.specs.declared.Form.{Form}
use Rattle.verdict.specs.declared.Refusal.{Refusal}
use Rattle.verdict.specs.declared.Refused.{Refused}
use Rattle.verdict.specs.declared.Refusal.TheVariants.{Length, FirstBytes, WorldCoords, Count, TableOutside, TablesShare, NotFinite, Corner, Material, WalkableFirst, NodeCount, NodeKind, OneTree, Box, RunsTwice, Adjacency, EdgeEntry, Transition, Perimeter, WorkMemory, NoSuchPlace, Paint, Link, Nudge, JournalFull, NoStep, Record, Session, PointBeyond, VertexOffGrid, TextLength, TextByte, TextLine, Name, TextNumber, TextCount, NameTwice, TextEnds, UnknownRoom, OutputShort, NoCaption, LinkNowhere, Blocked, Bench, HasTree}
use Rattle.verdict.specs.Verdict.{refused, accepted}
use Rattle.verdict.specs.Output.{no_form}
use Rattle.verdict.specs.Refusals.{number_of, verdict_of, told_form}
use Rattle.verdict.proofs.Results.{number_positive}

-- the refusals by their numbers; where there is none, any
by_number : List Refusal
by_number = Length ∷ Length ∷ FirstBytes ∷ WorldCoords ∷ Count ∷ TableOutside ∷ TablesShare ∷ NotFinite ∷ Corner ∷ Material ∷ WalkableFirst ∷ NodeCount ∷ NodeKind ∷ OneTree ∷ Box ∷ RunsTwice ∷ Adjacency ∷ EdgeEntry ∷ Transition ∷ Perimeter ∷ WorkMemory ∷ NoSuchPlace ∷ Paint ∷ Link ∷ Nudge ∷ JournalFull ∷ NoStep ∷ Record ∷ Session ∷ PointBeyond ∷ VertexOffGrid ∷ TextLength ∷ TextByte ∷ TextLine ∷ Name ∷ TextNumber ∷ TextCount ∷ NameTwice ∷ TextEnds ∷ UnknownRoom ∷ OutputShort ∷ NoCaption ∷ LinkNowhere ∷ Blocked ∷ Length ∷ Bench ∷ Length ∷ Length ∷ Length ∷ HasTree ∷ []

named : (r : Refusal) → get_or by_number (number_of r) Length ≡ r
unfolding by_number
named Length = refl
named FirstBytes = refl
named WorldCoords = refl
named Count = refl
named TableOutside = refl
named TablesShare = refl
named NotFinite = refl
named Corner = refl
named Material = refl
named WalkableFirst = refl
named NodeCount = refl
named NodeKind = refl
named OneTree = refl
named Box = refl
named RunsTwice = refl
named Adjacency = refl
named EdgeEntry = refl
named Transition = refl
named Perimeter = refl
named WorkMemory = refl
named NoSuchPlace = refl
named Paint = refl
named Link = refl
named Nudge = refl
named JournalFull = refl
named NoStep = refl
named Record = refl
named Session = refl
named PointBeyond = refl
named VertexOffGrid = refl
named TextLength = refl
named TextByte = refl
named TextLine = refl
named Name = refl
named TextNumber = refl
named TextCount = refl
named NameTwice = refl
named TextEnds = refl
named UnknownRoom = refl
named OutputShort = refl
named NoCaption = refl
named LinkNowhere = refl
named Blocked = refl
named Bench = refl
named HasTree = refl

-- two refusals with one number are the same
pub number_once : (r q : Refusal) → number_of r ≡ number_of q → r ≡ q
number_once r q e = sym (named r) ∙ ap (λ (n : ℕ). get_or by_number n Length) e ∙ named q

-- two refusals with one number and one place are the same
pub refused_once : (r q : Refused) → number_of r.refusal ≡ number_of q.refusal → r.place ≡ q.place → r ≡ q
refused_once r q e p =
    ap (λ (f : Refusal). record { refusal = f; place = r.place }) (number_once r.refusal q.refusal e)
    ∙ ap (λ (n : ℕ). record { refusal = q.refusal; place = n }) p

-- a refusal is not told as what is met, and two refusals that are told alike are the same
pub met_not_refused : {X : Type 0} (r : Refused) → accepted ≡ refused (number_of r.refusal) r.place → X
met_not_refused r e = absurd (omega (arith, number_positive r.refusal, ap (λ (a : Answer). a.number) e))

pub refusal_once : (r q : Refused) → refused (number_of r.refusal) r.place ≡ refused (number_of q.refusal) q.place → r ≡ q
refusal_once r q e = refused_once r q (ap (λ (a : Answer). a.number) e) (ap (λ (a : Answer). a.place) e)

-- two verdicts that are told alike are the same
pub verdict_once : (v w : Result ⊤ Refused) → verdict_of v ≡ verdict_of w → v ≡ w
verdict_once (Ok x) (Ok y) e = refl
verdict_once (Ok x) (Err q) e = met_not_refused q e
verdict_once (Err r) (Ok y) e = met_not_refused r (sym e)
verdict_once (Err r) (Err q) e = ap Err (refusal_once r q e)

-- and so are two rewritings
answer_in : Form → Answer
answer_in f = refused f.number f.place

pub form_once : (v w : Result ℕ Refused) → told_form v ≡ told_form w → v ≡ w
unfolding answer_in no_form
form_once (Ok n) (Ok m) e = ap Ok (ap (λ (f : Form). f.length) e)
form_once (Ok n) (Err q) e = met_not_refused q (ap answer_in e)
form_once (Err r) (Ok m) e = met_not_refused r (sym (ap answer_in e))
form_once (Err r) (Err q) e = ap Err (refusal_once r q (ap answer_in e))
