-- Lists of names of which no two are the same. Assumes nothing.
use mathlib.Core.Path.{◌≡◌, refl}
use mathlib.Core.Bool.{false}
use mathlib.Core.List.{List, [], ◌∷◌, ◌++◌, map-append}
use mathlib.Core.Logic.{⊎_elim}
use Prim.Native.Nat.{ℕ, zero, suc, ◌+◌, ◌<◌}
use native.Mathlib.Nat.{eq-or-lt_of_le, le_of_suc-le-suc}
use native.Mathlib.Omega.{arith}
use lib.ListN.{length, get_or, length-append, length-map}
use Rattle.verdict.proofs.Lists.{map_at_lem}
use Rattle.verdict.proofs.Lowest.{none_under, under_none}
use Rattle.names.specs.Name.{same_name}
use Rattle.text.specs.Reading.{Word, Line, nth}
use Rattle.layout.specs.Grammar.{words_at, names_of, doors_of, known}

-- ---- the last of a list

pub get_d_last : {A : Type 0} (d : A) (xs : List A) (x : A) → get_or (xs ++ (x ∷ [])) (length xs) d ≡ x
get_d_last d [] x = refl
get_d_last d (y ∷ xs) x = get_d_last d xs x

pub get_d_first : {A : Type 0} (d : A) (xs ys : List A) (i : ℕ) → i < length xs → get_or (xs ++ ys) i d ≡ get_or xs i d
get_d_first d [] ys i l = absurd (omega arith)
get_d_first d (x ∷ xs) ys zero l = refl
get_d_first d (x ∷ xs) ys (suc i) l = get_d_first d xs ys i (le_of_suc-le-suc l)

pub get_d_mid : {A : Type 0} (d : A) (xs ys : List A) (y : A) → get_or (xs ++ (y ∷ ys)) (length xs) d ≡ y
get_d_mid d [] ys y = refl
get_d_mid d (x ∷ xs) ys y = get_d_mid d xs ys y

-- ---- word k of each entry: the names, and the doors

pub words_join : (k : ℕ) (es : List Line) (e : Line) (more : List Line) → words_at k (es ++ (e ∷ more)) ≡ words_at k es ++ (nth e k ∷ words_at k more)
words_join k es e more = map-append (λ (l : Line). nth l k) es (e ∷ more)

pub words_long : (k : ℕ) (es : List Line) → length (words_at k es) ≡ length es
words_long k es = length-map es (λ (e : Line). nth e k)

pub words_here : (k : ℕ) (es : List Line) (j : ℕ) → j < length es → get_or (words_at k es) j [] ≡ nth (get_or es j []) k
words_here k es j l = map_at_lem (λ (e : Line). nth e k) [] [] es j l

pub length_names : (es : List Line) → length (names_of es) ≡ length es
unfolding names_of
length_names es = words_long 0 es

pub names_more : (es : List Line) (e : Line) → names_of (es ++ (e ∷ [])) ≡ names_of es ++ (nth e 0 ∷ [])
unfolding names_of
names_more es e = words_join 0 es e []

pub names_at : (es : List Line) (j : ℕ) → j < length es → get_or (names_of es) j [] ≡ nth (get_or es j []) 0
unfolding names_of
names_at es j l = words_here 0 es j l

pub length_doors : (es : List Line) → length (doors_of es) ≡ length es
unfolding doors_of
length_doors es = words_long 1 es

pub doors_more : (es : List Line) (e : Line) → doors_of (es ++ (e ∷ [])) ≡ doors_of es ++ (nth e 1 ∷ [])
unfolding doors_of
doors_more es e = words_join 1 es e []

-- no two names are the same
pub record Apart (names : List Word) : Type 0 where
  pub other : (i j : ℕ) → i < j → j < length names → same_name (get_or names j []) (get_or names i []) ≡ false

pub apart_none : Apart []
apart_none = record { other = λ i j l m. absurd (omega arith) }

pub apart_more : (names : List Word) (w : Word) → Apart names → known w names ≡ false → Apart (names ++ (w ∷ []))
unfolding known
apart_more names w a k = record { other = go }
  where
    new : (i : ℕ) → i < length names → same_name (get_or (names ++ (w ∷ [])) (length names) []) (get_or (names ++ (w ∷ [])) i []) ≡ false
    new i l =
        rw (get_d_last [] names w, get_d_first [] names (w ∷ []) i l) (none_under (λ (j : ℕ). same_name w (get_or names j [])) (length names) k i l)

    go : (i j : ℕ) → i < j → j < length (names ++ (w ∷ [])) → same_name (get_or (names ++ (w ∷ [])) j []) (get_or (names ++ (w ∷ [])) i []) ≡ false
    go i j l m =
        let n : length (names ++ (w ∷ [])) ≡ length names + 1 = length-append names (w ∷ []) in
        ⊎_elim (λ (e : j ≡ length names). rw e (new i (omega arith)))
        (λ (h : j < length names). rw (get_d_first [] names (w ∷ []) j h, get_d_first [] names (w ∷ []) i (omega arith)) (a.other i j l h))
        (eq-or-lt_of_le (le_of_suc-le-suc (omega arith)))

-- a name is not one of those before it
pub apart_before : (done : List Word) (w : Word) (more : List Word) → Apart (done ++ (w ∷ more)) → known w done ≡ false
unfolding known
apart_before done w more a =
    under_none (λ (j : ℕ). same_name w (get_or done j [])) (length done)
    (λ j l. rw (get_d_mid [] done more w, get_d_first [] done (w ∷ more) j l) at (a.other j (length done) l (omega (arith, length-append done (w ∷ more)))))
