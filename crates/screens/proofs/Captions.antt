-- Layouts that are alike but for the name of room j: the caption of every other number is the same; and what a caption is made of, whatever
-- the texts. Assumes nothing.
use mathlib.Core.Path.{◌≡◌, refl, sym, ap, ◌∙◌}
use mathlib.Core.Logic.{◌≢◌}
use mathlib.Core.Bool.{true, false}
use mathlib.Core.List.{List}
use Prim.Native.Nat.{ℕ, ◌≤◌, ◌<◌}
use native.Mathlib.Omega.{arith}
use native.Mathlib.Decide.{ℕ_discrete}
use lib.ListN.{length, get_or}
use borrow.Author.Tests.{not-true}
use Rattle.verdict.proofs.Bools.{decided}
use Rattle.letters.specs.Class.{name_byte, is_end}
use Rattle.letters.proofs.ClassLaws.{word_inline, name_word_byte}
use Rattle.names.proofs.NameLaws.{name_long}
use Rattle.caption.specs.declared.CaptionAt.{CaptionAt}
use Rattle.caption.specs.Caption.{has_room, caption_of, caption_number, caption_at}
use Rattle.caption.proofs.Promises.{caption_name, caption_clean, caption_41, caption_cut}
use Rattle.screens.specs.Alike.{AlikeLayouts}
use Rattle.screens.specs.Calls.{cut_out, shown_caption}
use Rattle.screens.specs.TypedName.{CleanCaption}
use Rattle.screens.proofs.NameLaws.{alike_names}

-- what an answer cuts out is the caption, with 41 too
pub cut_caption : (v house : List ℕ) (i : ℕ) (c : CaptionAt) → c ≡ caption_at v house i → cut_out v house c ≡ caption_of v house i
unfolding caption_at
cut_caption v house i c e =
    decided (ℕ_discrete (caption_number v house i) 0) (λ z. (caption_cut v house i c e (ap (λ (x : CaptionAt). x.number) e ∙ z)).0)
    (λ z. let n = (caption_41 v house i z).1 in rw (e, n))

pub shown_is : (v house : List ℕ) (i : ℕ) → shown_caption v house i ≡ caption_of v house i
shown_is v house i = cut_caption v house i (caption_at v house i) refl

module _ (j : ℕ) (v w : List ℕ) (a : AlikeLayouts j v w) where
  has_alike : (i : ℕ) → has_room v i ≡ has_room w i
  unfolding has_room
  has_alike i = rw (alike_names j v w a).long

  module _ (house : List ℕ) where
    -- the caption of every number but j, also of one that no room has
    caption_of_alike : (i : ℕ) → i ≢ j → caption_of v house i ≡ caption_of w house i
    unfolding caption_of
    caption_of_alike i n = rw (has_alike i, a.others i n)

    -- its place may move with the text before it: the bytes that are shown are the same
    pub caption_alike : (i : ℕ) → i ≢ j → shown_caption v house i ≡ shown_caption w house i
    caption_alike i n = shown_is v house i ∙ caption_of_alike i n ∙ sym (shown_is w house i)

    -- the number of every caption, that of room j too
    pub caption_number_alike : (i : ℕ) → (caption_at v house i).number ≡ (caption_at w house i).number
    unfolding caption_at caption_number
    caption_number_alike i = rw (has_alike i)

    -- which text it is a part of, for every number too
    pub caption_house_alike : (i : ℕ) → (caption_at v house i).house ≡ (caption_at w house i).house
    unfolding caption_at
    caption_house_alike i = rw (has_alike i)

-- ---- what a caption is made of

-- a byte of a name ends no line
name_no_end : (b : ℕ) → name_byte b ≡ true → is_end b ≡ false
name_no_end b e = not-true (is_end b) (word_inline b (name_word_byte b e))

-- of a caption that is told as bytes, by `caption_of`
caption_right : (v house : List ℕ) (i : ℕ) → (length (caption_of v house i) ≤ 16) × ((k : ℕ) → k < length (caption_of v house i) → name_byte (get_or (caption_of v house i) k 0) ≡ true)
caption_right v house i =
    decided (ℕ_discrete (caption_number v house i) 0) (λ z. ((name_long (caption_of v house i) (caption_name v house i z)).1, λ k l. caption_clean v house i k z l))
    (λ z. let n = ap length (caption_41 v house i z).1 in (omega arith, λ k l. absurd (omega arith)))

pub clean_caption : (visitor house : List ℕ) (i : ℕ) → CleanCaption visitor house i
clean_caption v house i =
    let (short, clean) = caption_right v house i in
    record {
      short = rw (shown_is v house i) short;
      clean = rw (shown_is v house i) clean;
      no_end = rw (shown_is v house i) (λ k l. name_no_end _ (clean k l));
    }
