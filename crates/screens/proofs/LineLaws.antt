-- Lists alongside each other, and texts of lines that differ in no line but those that hold a name. Assumes nothing.
use mathlib.Core.Path.{◌≡◌, refl, ap, ◌∙◌}
use mathlib.Core.Logic.{◌≢◌, ◌⊎◌, inl, inr}
use mathlib.Core.Bool.{true}
use mathlib.Core.List.{List, [], ◌∷◌, ◌++◌, map}
use Prim.Native.Nat.{ℕ, zero, suc, ◌<◌}
use native.Mathlib.Nat.{le_of_suc-le-suc}
use native.Mathlib.Omega.{arith}
use lib.ListN.{length, get_or}
use Rattle.verdict.proofs.Each.{Each, each_map}
use Rattle.letters.specs.Class.{class_of, is_end}
use Rattle.text.specs.Scan.{apart, lines}
use Rattle.text.specs.Reading.{Word, Line}
use Rattle.text.specs.Written.{spaced, ended, written}
use Rattle.text.proofs.RunLaws.{All}
use Rattle.text.proofs.SplitLaws.{split_join, split_nil}
use Rattle.text.proofs.WrittenLaws.{AllPlain, AllLines, words_spaced, inline_spaced}
use Rattle.screens.specs.Alike.{Alongside}
use Rattle.screens.specs.Shown.{ButFor, SameLine, SameBut}

-- ---- lists alongside each other

module _ {A : Type 0} (R : A → A → Type 0) where
  pub alongside_append : (xs ys us vs : List A) → Alongside R xs ys → Alongside R us vs → Alongside R (xs ++ us) (ys ++ vs)
  alongside_append [] [] us vs h k = k
  alongside_append [] (y ∷ ys) us vs h k = absurd h
  alongside_append (x ∷ xs) [] us vs h k = absurd h
  alongside_append (x ∷ xs) (y ∷ ys) us vs (p, h) k = (p, alongside_append xs ys us vs h k)

  pub alongside_same : ((x : A) → R x x) → (xs ys : List A) → xs ≡ ys → Alongside R xs ys
  alongside_same f xs ys e = rw e (go ys)
    where
      go : (zs : List A) → Alongside R zs zs
      go [] = tt
      go (z ∷ zs) = (f z, go zs)

  pub alongside_long : (xs ys : List A) → Alongside R xs ys → length xs ≡ length ys
  alongside_long [] [] h = refl
  alongside_long [] (y ∷ ys) h = absurd h
  alongside_long (x ∷ xs) [] h = absurd h
  alongside_long (x ∷ xs) (y ∷ ys) (p, h) = ap suc (alongside_long xs ys h)

  pub alongside_at : (d : A) (xs ys : List A) → Alongside R xs ys → (k : ℕ) → k < length xs → R (get_or xs k d) (get_or ys k d)
  alongside_at d [] [] h k l = absurd (omega arith)
  alongside_at d [] (y ∷ ys) h k l = absurd h
  alongside_at d (x ∷ xs) [] h k l = absurd h
  alongside_at d (x ∷ xs) (y ∷ ys) (p, h) zero l = p
  alongside_at d (x ∷ xs) (y ∷ ys) (p, h) (suc k) l = alongside_at d xs ys h k (le_of_suc-le-suc l)

-- ---- lines of words

-- the same line of words, or the same but for the word a in the one and b in the other
abbrev pub SameWords : Word → Word → Line → Line → Type 0
SameWords a b l m = (l ≡ m) ⊎ ButFor a b l m

-- two lines that begin with two words and go on alike

pub begin_apart : (a b : Word) (ws us : Line) → ws ≡ us → ButFor a b (a ∷ ws) (b ∷ us)
begin_apart a b ws us e = record { at = 0; inside = omega arith; here = refl; there = refl; long = ap (λ (l : Line). suc (length l)) e; others = others }
  where
    others : (k : ℕ) → k ≢ 0 → get_or (a ∷ ws) k [] ≡ get_or (b ∷ us) k []
    others zero n = absurd (n refl)
    others (suc k) n = ap (λ (l : Line). get_or l k []) e

-- ---- the lines of a text that is written

feed_end : is_end 10 ≡ true
unfolding is_end class_of
feed_end = refl

pub ended_lines : (ls : List (List ℕ)) → Each (All (apart is_end)) ls → lines (ended ls) ≡ ls
unfolding ended lines
ended_lines [] h = split_nil is_end
ended_lines (l ∷ ls) (p, h) = split_join is_end l 10 (ended ls) p feed_end ∙ ap (λ (r : List (List ℕ)). l ∷ r) (ended_lines ls h)

module _ (a b : Word) where
  pub ended_same : (ls ms : List (List ℕ)) → Each (All (apart is_end)) ls → Each (All (apart is_end)) ms → Alongside (SameLine a b) ls ms → SameBut a b (ended ls) (ended ms)
  ended_same ls ms p q h = record {
    long = rw (ended_lines ls p, ended_lines ms q) (alongside_long (SameLine a b) ls ms h);
    line = rw (ended_lines ls p, ended_lines ms q) (alongside_at (SameLine a b) [] ls ms h);
  }

  -- lines of words
  spaced_same : (ls ms : List Line) → AllLines ls → AllLines ms → Alongside (SameWords a b) ls ms → Alongside (SameLine a b) (map spaced ls) (map spaced ms)
  spaced_same [] [] p q h = tt
  spaced_same [] (m ∷ ms) p q h = absurd h
  spaced_same (l ∷ ls) [] p q h = absurd h
  spaced_same (l ∷ ls) (m ∷ ms) (p, ps) (q, qs) (h, hs) = (go h, spaced_same ls ms ps qs hs)
    where
      go : SameWords a b l m → SameLine a b (spaced l) (spaced m)
      go (inl e) = inl (ap spaced e)
      go (inr d) = inr (rw (words_spaced l p, words_spaced m q) d)

  pub written_same : (ls ms : List Line) → AllLines ls → AllLines ms → Alongside (SameWords a b) ls ms → SameBut a b (written ls) (written ms)
  written_same ls ms p q h =
      ended_same (map spaced ls) (map spaced ms) (each_map AllPlain (All (apart is_end)) spaced inline_spaced ls p) (each_map AllPlain (All (apart is_end)) spaced inline_spaced ms q) (spaced_same ls ms p q h)
