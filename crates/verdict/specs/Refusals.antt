-- The refusals by their numbers, and a verdict as the answer that tells it. Definitions only.
use Rattle.std.specs.Prelude.{ℕ, Option, Some, None, Result, Ok, Err}
use Rattle.verdict.specs.Verdict.{refused, accepted}
use Rattle.verdict.specs.Output.{no_form}
use Rattle.verdict.specs.declared.Answer.{Answer}
use Rattle.verdict.specs.declared.Form.{Form}
use Rattle.verdict.specs.declared.Refusal.{Refusal}
use Rattle.verdict.specs.declared.Refused.{Refused}
use Rattle.verdict.specs.declared.Refusal.TheVariants.{Length, FirstBytes, WorldCoords, Count, TableOutside, TablesShare, NotFinite, Corner, Material, WalkableFirst, NodeCount, NodeKind, OneTree, Box, RunsTwice, Adjacency, EdgeEntry, Transition, Perimeter, WorkMemory, NoSuchPlace, Paint, Link, Nudge, JournalFull, NoStep, Record, Session, PointBeyond, VertexOffGrid, TextLength, TextByte, TextLine, Name, TextNumber, TextCount, NameTwice, TextEnds, UnknownRoom, OutputShort, NoCaption, LinkNowhere, Blocked, Bench, HasTree}

-- the numbers of documents 01 and 02
abbrev pub number_of : Refusal → ℕ
number_of Length = 1
number_of FirstBytes = 2
number_of WorldCoords = 3
number_of Count = 4
number_of TableOutside = 5
number_of TablesShare = 6
number_of NotFinite = 7
number_of Corner = 8
number_of Material = 9
number_of WalkableFirst = 10
number_of NodeCount = 11
number_of NodeKind = 12
number_of OneTree = 13
number_of Box = 14
number_of RunsTwice = 15
number_of Adjacency = 16
number_of EdgeEntry = 17
number_of Transition = 18
number_of Perimeter = 19
number_of WorkMemory = 20
number_of NoSuchPlace = 21
number_of Paint = 22
number_of Link = 23
number_of Nudge = 24
number_of JournalFull = 25
number_of NoStep = 26
number_of Record = 27
number_of Session = 28
number_of PointBeyond = 29
number_of VertexOffGrid = 30
number_of TextLength = 31
number_of TextByte = 32
number_of TextLine = 33
number_of Name = 34
number_of TextNumber = 35
number_of TextCount = 36
number_of NameTwice = 37
number_of TextEnds = 38
number_of UnknownRoom = 39
number_of OutputShort = 40
number_of NoCaption = 41
number_of LinkNowhere = 42
number_of Blocked = 43
number_of Bench = 45
number_of HasTree = 49

-- what a caller is told: 0 at 0, or the refusal's number and its place
abbrev pub verdict_of : {A : Type 0} → Result A Refused → Answer
verdict_of (Ok _) = accepted
verdict_of (Err r) = refused (number_of r.refusal) r.place

-- what a rule answers that is broken where a place was found
abbrev pub rule_at : ℕ → Option ℕ → Answer
rule_at number None = accepted
rule_at number (Some place) = refused number place

-- what a caller of a rewriting is told
abbrev pub told_form : Result ℕ Refused → Form
told_form (Ok length) = record { number = 0; place = 0; length = length }
told_form (Err r) = no_form (number_of r.refusal) r.place
