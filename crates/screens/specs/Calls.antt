-- What a caller shows of an answer: the bytes that a caption's answer cuts out, and those that a rewriting hands over in its output. They are
-- said by what the contracts of the calls promise. Definitions only.
use Rattle.std.specs.Prelude.{ℕ, cond, List, eqb, length, take, drop}
use Rattle.verdict.specs.declared.Answer.{Answer}
use Rattle.verdict.specs.Output.{form_answer, form_memory}
use Rattle.text.specs.Reading.{Word}
use Rattle.layoutform.specs.Form.{parts_of, form_text}
use Rattle.layoutform.specs.Rewrite.{renamed_form, rewrite_verdict, rename_verdict}
use Rattle.caption.specs.declared.CaptionAt.{CaptionAt}
use Rattle.caption.specs.Caption.{caption_at}
use Rattle.sightform.specs.Rewrite.{rewritten_sight, renamed_sight, sight_rewrite_verdict, sight_rename_verdict}

-- the bytes that a caption's answer cuts out of the text that it names
abbrev pub cut_out : List ℕ → List ℕ → CaptionAt → List ℕ
cut_out visitor house c = take c.length (drop c.start (cond (eqb c.house 0) visitor house))

-- what is shown as the caption of room i
abbrev pub shown_caption : List ℕ → List ℕ → ℕ → List ℕ
shown_caption visitor house i = cut_out visitor house (caption_at visitor house i)

-- what a rewriting hands over: as many bytes as it answers, from the start of the output as it leaves it
unfoldable pub handed_over : Answer → List ℕ → List ℕ → List ℕ
handed_over a form out = take (form_answer a form).length (form_memory a form out)

-- a layout and visibility rewritten into an output, and with the typed name w for room i
abbrev pub layout_into : List ℕ → List ℕ → List ℕ
layout_into v out = handed_over (rewrite_verdict v (length out)) (form_text (parts_of v)) out

abbrev pub sight_into : List ℕ → List ℕ → List ℕ → List ℕ
sight_into v s out = handed_over (sight_rewrite_verdict v s (length out)) (rewritten_sight v s) out

abbrev pub renamed_layout_into : List ℕ → ℕ → Word → List ℕ → List ℕ
renamed_layout_into v i w out = handed_over (rename_verdict v i w (length out)) (renamed_form v i w) out

abbrev pub renamed_sight_into : List ℕ → List ℕ → ℕ → Word → List ℕ → List ℕ
renamed_sight_into v s i w out = handed_over (sight_rename_verdict v s i w (length out)) (renamed_sight v s i w) out
