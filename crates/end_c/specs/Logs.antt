-- What is logged of calls.
use Rattle.std.specs.Prelude.{ℕ, ◌+◌, Bool, true, false, if◌then◌else◌, List, [], ◌∷◌, ◌++◌, length, nat_le}
use Rattle.end.specs.Faults.{Answer, counts, faults, opens}
use Rattle.end.specs.Records.{Record}
use Rattle.fault.specs.Faults.{layer_number}

abbrev pub bit : Bool → ℕ
bit false = 0
bit true = 1

-- the count of bytes sent, and the fault by number, layer and place, or 0 for none; or which sockets are open
abbrev pub answer_logged : Answer → List ℕ
answer_logged (counts n) = n ∷ 0 ∷ 0 ∷ 0 ∷ []
answer_logged (faults code n) = n ∷ code.number ∷ layer_number code.layer ∷ code.place ∷ []
answer_logged (opens one two) = bit one ∷ bit two ∷ []

-- what a call answered, and then what it sent
abbrev pub logged : Record → List ℕ
logged r = answer_logged r.answer ++ r.fed.sent

-- with more behind it, if that fits in n bytes
abbrev pub appended : ℕ → List ℕ → List ℕ → List ℕ
appended n log more = if nat_le (length log + length more) n then log ++ more else log

-- one behind the other in n bytes; the newest stands first
abbrev pub log_of : ℕ → List Record → List ℕ
log_of n [] = []
log_of n (r ∷ h) = appended n (log_of n h) (logged r)
