-- `printer::put_fixed` meets its contract: the front digits first, then the last. The measure is how many there are. Assumes nothing.
use native.Mathlib.Omega.{arith}
use Rattle.number.specs.Number.{fixed}
use Rattle.printer.proofs.WriteLaws.{wrote_none, wrote_then}
use Rattle.number.proofs.DigitLaws.{fixed_pos, length_fixed}
use borrow.Author.Rules.{rules}
use Prim.Native.Nat.{ℕ, ◌<◌, ◌-◌, ◌/◌}
use borrow.Fn.Kinds.{In}
use borrow.Fn.PlainCycle.{Measures, is, falls, and}
use Rattle.printer.proofs.put_fixed.Reads as put-fixed
use Rattle.printer.proofs.put_fixed.Kinds as put-fixed-kinds
use Rattle.printer.proofs.+put_fixed.Lts-put_fixed as put-fixed-lts
use Rattle.printer.proofs.put_byte.Reads as put-byte-reads
use Rattle.printer.proofs.+put_fixed.{statement}
use Rattle.printer.proofs.+put_fixed.Tie.{close}

abbrev μ_put_fixed : Measures 1 put-fixed-kinds.ps ℕ
μ_put_fixed κs a = a.1.1.0

abbrev put_fixed_at : ℕ → In 1 put-fixed-kinds.ps
put_fixed_at t = and 1 put-fixed-kinds.ps (is 1 put-fixed-kinds.ps μ_put_fixed t) put-fixed.Pre

abbrev put_fixed_below : ℕ → In 1 put-fixed-kinds.ps
put_fixed_below t =
    and 1 put-fixed-kinds.ps (falls 1 put-fixed-kinds.ps ◌<◌ μ_put_fixed t) put-fixed.Pre

put_fixed_returns : (t : ℕ) → put-fixed-lts.Need-returns-then-k-eq0 (
  put_fixed_below t,
  put-fixed.Post,
  put-byte-reads.Asked,
  put-byte-reads.Learnt,
) (put_fixed_at t) put-fixed.Post
unfolding fixed
put_fixed_returns t c = rw c.if-k-eq0.true (wrote_none _ _)

put_fixed_sub_put_fixed : (t : ℕ) → put-fixed-lts.Need-overflow_sub-k (
  put_fixed_below t,
  put-fixed.Post,
  put-byte-reads.Asked,
  put-byte-reads.Learnt,
) (put_fixed_at t) put-fixed.Post
put_fixed_sub_put_fixed t c = search rules

put_fixed_put_fixed_requires : (t : ℕ) → put-fixed-lts.Need-put_fixed-e-requires (
  put_fixed_below t,
  put-fixed.Post,
  put-byte-reads.Asked,
  put-byte-reads.Learnt,
) (put_fixed_at t) put-fixed.Post
put_fixed_put_fixed_requires t c κs = omega arith

put_fixed_add_put_byte : (t : ℕ) → put-fixed-lts.Need-overflow_add-v (
  put_fixed_below t,
  put-fixed.Post,
  put-byte-reads.Asked,
  put-byte-reads.Learnt,
) (put_fixed_at t) put-fixed.Post
put_fixed_add_put_byte t c = search rules

put_fixed_cast_put_byte : (t : ℕ) → put-fixed-lts.Need-overflow_cast-v (
  put_fixed_below t,
  put-fixed.Post,
  put-byte-reads.Asked,
  put-byte-reads.Learnt,
) (put_fixed_at t) put-fixed.Post
put_fixed_cast_put_byte t c = search rules

put_fixed_put_byte_requires : (t : ℕ) → put-fixed-lts.Need-put_byte-requires (
  put_fixed_below t,
  put-fixed.Post,
  put-byte-reads.Asked,
  put-byte-reads.Learnt,
) (put_fixed_at t) put-fixed.Post
put_fixed_put_byte_requires t c κs =
    let e = c.before.before.before in
    let a = e.args in
    omega (arith, e.put_fixed-e.ensures.next, length_fixed (a.k - 1) (a.v / 10), e.requires)

put_fixed_same_length : (t : ℕ) → put-fixed-lts.Need-shape_of-out (
  put_fixed_below t,
  put-fixed.Post,
  put-byte-reads.Asked,
  put-byte-reads.Learnt,
) (put_fixed_at t) put-fixed.Post
put_fixed_same_length t c = search rules

put_fixed_returns_2 : (t : ℕ) → put-fixed-lts.Need-returns (
  put_fixed_below t,
  put-fixed.Post,
  put-byte-reads.Asked,
  put-byte-reads.Learnt,
) (put_fixed_at t) put-fixed.Post
put_fixed_returns_2 t c =
    let e = c.before.before.before.before.before.before in
    rw (fixed_pos _ _ e.if-k-eq0.false) (wrote_then e.put_fixed-e.ensures c.put_byte.ensures)

pub +put_fixed_spec : {M : Type 1} → statement M
+put_fixed_spec = close μ_put_fixed λ t. put-fixed-lts.spec (
  put_fixed_below t,
  put-fixed.Post,
  put-byte-reads.Asked,
  put-byte-reads.Learnt,
)
    (put_fixed_at t)
    put-fixed.Post
    (put_fixed_returns t)
    (put_fixed_sub_put_fixed t)
    (put_fixed_put_fixed_requires t)
    (put_fixed_add_put_byte t)
    (put_fixed_cast_put_byte t)
    (put_fixed_put_byte_requires t)
    (put_fixed_same_length t)
    (put_fixed_returns_2 t)
