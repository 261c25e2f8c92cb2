-- Some and None are apart, and what Some holds is known.
use Rattle.std.proofs.Common.{◌≡◌, Some, None}

pub no_some : {A : Type 0} {x : A} {P : Type 0} → None ≡ Some x → P
no_some e = cc

pub some_out : {A : Type 0} {x y : A} → Some x ≡ Some y → x ≡ y
some_out e = cc
