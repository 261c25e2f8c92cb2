-- Known bytes that are read and written.
use Rattle.std.proofs.Common.{ℕ, ◌+◌, take, drop, List, [], ◌++◌, length, Option, Some, None, Ok, Err, Result, sym, ap, ◌∙◌, refl, subst, append_assoc, append-nil, arith}
use Rattle.std.proofs.Math.Seq.{take-add, take-length}
use Rattle.std.specs.Io.KnownBytes.{Appends, Consumes, Keeps}
use Rattle.std.specs.declared.io.Error.{Error}
use Rattle.serial.specs.Outside.{writes, Means}

pub appends_none : (old : Option (List ℕ)) → Appends old old []
appends_none None = tt
appends_none (Some xs) = sym (append-nil xs)

pub appends_both : (old mid new : Option (List ℕ)) (first second : List ℕ) → Appends old mid first → Appends mid new second → Appends old new (first ++ second)
appends_both None mid new first second p q = tt
appends_both (Some xs) None new first second p q = absurd p
appends_both (Some xs) (Some ys) None first second p q = absurd q
appends_both (Some xs) (Some ys) (Some zs) first second p q = q ∙ ap (λ (l : List ℕ). l ++ second) p ∙ append_assoc xs first second

pub appends_kept : (old mid new : Option (List ℕ)) (bytes : List ℕ) → Appends old mid bytes → Keeps mid new → Appends old new bytes
appends_kept None mid new bytes p k = tt
appends_kept (Some xs) None new bytes p k = absurd p
appends_kept (Some xs) (Some ys) None bytes p k = absurd k
appends_kept (Some xs) (Some ys) (Some zs) bytes p k = k ∙ p

pub kept_appends : (old new : Option (List ℕ)) → Keeps old new → Appends old new []
kept_appends None new k = tt
kept_appends (Some xs) None k = absurd k
kept_appends (Some xs) (Some ys) k = k ∙ sym (append-nil xs)

-- a write behind n bytes that were written
pub more_written : (old mid new : Option (List ℕ)) (n m : ℕ) (bytes : List ℕ) → Appends old mid (take n bytes) →
    Appends mid new (take m (drop n bytes)) → Appends old new (take (n + m) bytes)
more_written old mid new n m bytes p q =
    subst (λ (l : List ℕ). Appends old new l) (sym (take-add n m bytes)) (appends_both old mid new _ _ p q)

pub consumes_none : (old : Option (List ℕ)) → Consumes old old []
consumes_none None = tt
consumes_none (Some xs) = refl

-- bytes that were all written, and the flush behind them
pub flushed : (unread old mid new : Option (List ℕ)) (left : ℕ) (bytes : List ℕ) (r : Result (Unit {0}) Error) → Appends old mid bytes → Keeps mid new →
    Means (writes bytes r) (record { unread = unread; got = old; left = left }) (record { unread = unread; got = new; left = left })
flushed unread old mid new left bytes (Ok u) p k =
    record { consumed = consumes_none unread; appended = appends_kept old mid new bytes p k; left = omega arith }
flushed unread old mid new left bytes (Err e) p k =
    let all = appends_kept old mid new bytes p k in (
      length bytes,
      record {
        consumed = consumes_none unread;
        appended = subst (λ (l : List ℕ). Appends old new l) (sym (take-length bytes)) all;
        left = omega arith;
      },
    )
