-- A buffer that a part of is written over.
use Rattle.std.proofs.Common.{◌≡◌, ℕ, ◌+◌, ◌-◌, List, length, refl, arith}
use borrow.Rule.Slice.PartMut.{put_mid}
use Rattle.std.proofs.lemmas.List.{drop-drop}
use Rattle.wire.specs.Line.{over_at}

pub over_part : (at end : ℕ) (out written bytes : List ℕ) → written ≡ bytes → end ≡ at + length bytes → put_mid at (end - at) out written ≡ over_at at bytes out
over_part at end out written bytes e h =
    let k : end - at ≡ length bytes = omega arith in
    rw (e, k, drop-drop) refl
