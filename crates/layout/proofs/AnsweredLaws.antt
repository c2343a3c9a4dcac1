-- The reader's answer: what the code finds is the definition's, and the definition says where the entries are. Assumes nothing.
use mathlib.Core.Path.{◌≡◌, refl, sym, ap, ◌∙◌}
use mathlib.Core.Bool.{cond}
use mathlib.Core.List.{List}
use Prim.Native.Nat.{ℕ, zero, suc, ◌+◌, ◌≤◌}
use native.Mathlib.Omega.{arith}
use native.Mathlib.Decide.{ℕ_discrete, dec_lt}
use lib.Dec.{eqb}
use lib.ListN.{length, drop, length-drop, length-replicate}
use borrow.Author.Tests.{ne_eqb}
use Rattle.verdict.specs.declared.Answer.{Answer}
use Rattle.verdict.specs.Verdict.{refused}
use Rattle.verdict.proofs.Bools.{decided}
use Rattle.letters.specs.Class.{is_end}
use Rattle.text.specs.Scan.{run, apart, words, line_at}
use Rattle.text.specs.Sound.{rules31to32}
use Rattle.layout.specs.declared.Progress.{Progress}
use Rattle.std.specs.declared.result.Result.{Result}
use Rattle.std.specs.declared.result.Result.TheVariants.{Ok, Err}
use Rattle.verdict.specs.declared.Refused.{Refused}
use Rattle.verdict.specs.Refusals.{number_of, verdict_of}
use Rattle.verdict.proofs.Results.{number_positive}
use Rattle.verdict.proofs.Told.{met_not_refused, refusal_once}
use Rattle.layout.specs.Grammar.{nothing, fault}
use Rattle.layout.specs.declared.Layout.{Layout}
use Rattle.layout.specs.Layout.{grammar, layout_verdict, layout_of}
use Rattle.layout.specs.Starts.{entry_at, track_starts, obstacle_starts, hook_starts, state_of, moved_to, kept, no_starts, begun, starts_of, no_layout, layout_read, Told, told, told_layout, Held, Found, Answered}
use Rattle.layout.proofs.HeldLaws.{held_long}
use Rattle.layout.proofs.ReadLaws.{verdict_unsound, verdict_sound, layout_sound, layout_refused}
use Rattle.layout.proofs.ScanLaws.{held_nothing, Reader, reader, turn_stops, turn_more, ends_early, ends_right}

-- ---- a text that 31 or 32 refuses

none_long : (number place : ℕ) → length (no_layout number place).starts ≡ 256
unfolding no_layout
none_long number place = length-replicate {A = ℕ} 256 0

module _ (s : List ℕ) (a : Answer) (e : a ≡ rules31to32 s) (n : a.number ≡ 0 → ⊥) where
  unsound : layout_verdict s ≡ a
  unsound = verdict_unsound s (λ h. n (ap (λ (b : Answer). b.number) e ∙ h)) ∙ sym e

  no_entries : layout_of s ≡ nothing
  no_entries = layout_refused s (λ h. n (sym (ap (λ (b : Answer). b.number) unsound) ∙ h))

  refused_read : (r : Told) → r ≡ no_layout a.number a.place → r ≡ layout_read s
  unfolding no_layout layout_read
  refused_read r q = q ∙ rw (no_entries, unsound, ne_eqb a.number 0 n)

  refused_answered : Answered s (no_layout a.number a.place)
  unfolding no_layout
  refused_answered = record { verdict = sym unsound; held = rw no_entries (held_nothing s a.number a.place); sized = none_long a.number a.place }

-- what the code tells of such a text
pub refusal_read : (s : List ℕ) (r : Refused) → refused (number_of r.refusal) r.place ≡ rules31to32 s → told (Err r) ≡ layout_read s
refusal_read s r e = refused_read s (refused (number_of r.refusal) r.place) e (λ z. absurd (omega (arith, number_positive r.refusal, z))) _ refl

-- ---- a text that they accept, by what was found in its lines

module _ (s : List ℕ) (z : (rules31to32 s).number ≡ 0) (r : Told) (f : Found s r (grammar s)) where
  found_verdict : refused r.number r.place ≡ layout_verdict s
  found_verdict = f.verdict ∙ sym (verdict_sound s z)

  found_held : Held s r (layout_of s)
  found_held = rw (layout_sound s z) f.held

  found_starts : r.starts ≡ cond (eqb (layout_verdict s).number 0) (starts_of s) no_starts
  found_starts = rw (verdict_sound s z) f.starts

  sized_read : length r.starts ≡ 256 → r ≡ layout_read s
  unfolding layout_read
  sized_read sized =
      let h = found_held in
      rw (
        ← h.rooms,
        ← h.tracks,
        ← h.obstacles,
        ← h.hooks,
        held_long s r.starts r.rooms (omega (arith, h.few_rooms)),
        held_long s (track_starts r.starts) r.tracks (omega (arith, h.few_tracks, length-drop 64 r.starts)),
        held_long s (obstacle_starts r.starts) r.obstacles (omega (arith, h.few_obstacles, length-drop 128 r.starts)),
        held_long s (hook_starts r.starts) r.hooks (omega (arith, h.few_hooks, length-drop 192 r.starts)),
        ← found_starts,
        ← found_verdict,
      )

-- ---- the definition's own answer, line by line as the code goes

record Reads (s : List ℕ) : Type 0 where
  it : Told
  sized : length it.starts ≡ 256
  found : Found s it (grammar s)

ended : (s starts : List ℕ) (c : Progress) (n at : ℕ) → Reader s starts c n at → length s ≤ at → Reads s
ended s starts c n at inv h =
    decided (ℕ_discrete c.sect 6)
    (λ e. record { it = _; sized = inv.sized; found = ends_right s starts c n at inv h e })
    (λ e. record { it = no_layout 38 n; sized = none_long 38 n; found = ends_early s starts c n at inv h _ e refl })

reads : (k : ℕ) (s starts : List ℕ) (c : Progress) (n at : ℕ) → length s ≤ at + k → Reader s starts c n at → Reads s
reads zero s starts c n at l inv = ended s starts c n at inv (omega arith)
reads (suc k) s starts c n at l inv =
    let f = fault (state_of s starts c) (entry_at s at) in
    decided (dec_lt at (length s))
    (λ h. decided (ℕ_discrete f 0)
    (λ z. reads k s (kept starts c at) (moved_to c (words (line_at s at))) (n + 1) (at + run (apart is_end) (drop at s) + 1) (omega arith) (turn_more s starts c n at f inv h refl _ _ _ _ z refl refl refl refl))
    (λ z. record { it = no_layout f (n + 1); sized = none_long f (n + 1); found = turn_stops s starts c n at f inv h refl _ z refl }))
    (λ h. ended s starts c n at inv (omega arith))

-- what was found is the answer
pub found_read : (s : List ℕ) → (rules31to32 s).number ≡ 0 → (r : Told) → Found s r (grammar s) → r ≡ layout_read s
found_read s z r f =
    let w = reads (length s) s no_starts begun 0 0 (omega arith) (reader s) in
    sized_read s z r f (ap length (f.starts ∙ sym w.found.starts) ∙ w.sized)

-- the law: of the answer, what callers go by
pub answered : (s : List ℕ) (r : Told) → r ≡ layout_read s → Answered s r
answered s r q =
    decided (ℕ_discrete (rules31to32 s).number 0)
    (λ z.
    let w = reads (length s) s no_starts begun 0 0 (omega arith) (reader s) in
    rw (q ∙ sym (sized_read s z w.it w.found w.sized)) (record { verdict = found_verdict s z w.it w.found; held = found_held s z w.it w.found; sized = w.sized }))
    (λ z. rw (q ∙ sym (refused_read s (rules31to32 s) refl z _ refl)) (refused_answered s (rules31to32 s) refl z))

-- and its verdict
pub verdict_told : (s : List ℕ) (v : Result Layout Refused) → told v ≡ layout_read s → verdict_of v ≡ layout_verdict s
unfolding no_layout
verdict_told s (Ok r) e = (answered s (told_layout r) e).verdict
verdict_told s (Err r) e = (answered s (told (Err r)) e).verdict

-- ---- what is told is told of one answer alone

answer_in : Told → Answer
answer_in t = refused t.number t.place

read_in : Told → Layout
read_in t = record { rooms = t.rooms; tracks = t.tracks; obstacles = t.obstacles; hooks = t.hooks; starts = t.starts }

pub told_once : (a b : Result Layout Refused) → told a ≡ told b → a ≡ b
unfolding no_layout answer_in read_in
told_once (Ok r) (Ok q) e = ap Ok (ap read_in e)
told_once (Ok r) (Err q) e = met_not_refused q (ap answer_in e)
told_once (Err r) (Ok q) e = met_not_refused r (sym (ap answer_in e))
told_once (Err r) (Err q) e = ap Err (refusal_once r q (ap answer_in e))
