-- What words mean as arguments.
use Rattle.std.specs.Prelude.{ℕ, ◌^◌, Bool, true, if◌then◌else◌, ◌&&◌, List, [], ◌∷◌, length, Some, None, Ok, Err, Option, Result, nat_lt}
use Rattle.std.specs.Char.{is_digit}
use Rattle.std.specs.Option.{ok_or}
use Rattle.std.specs.Result.{result_ok}
use Rattle.std.specs.Str.Parse.{digits_value}
use Rattle.heads.specs.Any.{head_named}
use Rattle.heads.specs.declared.any.HeadKind.{HeadKind}
use Rattle.serial.specs.declared.arguments.Arguments.{Arguments}
use Rattle.serial.specs.declared.arguments.ArgumentsError.{ArgumentsError}
use Rattle.serial.specs.declared.arguments.ArgumentsError.TheVariants.{NoHead, NoSuchHead, NoTickLength, NoCountOfReads, TooMany}
use Rattle.serial.specs.Lengths.{is_length}

abbrev pub head_asked : List ℕ → Result HeadKind ArgumentsError
head_asked w = ok_or (result_ok (head_named w)) NoSuchHead

abbrev pub all_digits : List ℕ → Bool
all_digits [] = true
all_digits (c ∷ cs) = is_digit c 10 && all_digits cs

-- the number that a word of decimal digits alone writes, if it is below 2 ^ 32
abbrev pub decimal : List ℕ → Option ℕ
decimal w = if nat_lt 0 (length w) && all_digits w && nat_lt (digits_value 10 w) (2 ^ 32) then Some (digits_value 10 w) else None

-- a number that passes a test
abbrev pub tested : (ℕ → Bool) → ArgumentsError → Option ℕ → Result ℕ ArgumentsError
tested p e None = Err e
tested p e (Some n) = if p n then Ok n else Err e

abbrev pub length_of : List ℕ → Result ℕ ArgumentsError
length_of w = tested is_length NoTickLength (decimal w)

abbrev pub reads_of : List ℕ → Result ℕ ArgumentsError
reads_of w = tested (nat_lt 0) NoCountOfReads (decimal w)

-- HEAD, HEAD TICK_MS or HEAD TICK_MS QUIET; the first that is wrong is told
abbrev pub arguments_of : Result HeadKind ArgumentsError → Result ℕ ArgumentsError → Result (Option ℕ) ArgumentsError → Result Arguments ArgumentsError
arguments_of (Err e) tick quiet = Err e
arguments_of (Ok head) (Err e) quiet = Err e
arguments_of (Ok head) (Ok tick) (Err e) = Err e
arguments_of (Ok head) (Ok tick) (Ok quiet) = Ok (record { head = head; tick = tick; quiet = quiet })

abbrev pub some_reads : Result ℕ ArgumentsError → Result (Option ℕ) ArgumentsError
some_reads (Err e) = Err e
some_reads (Ok n) = Ok (Some n)

-- 20 milliseconds
abbrev pub arguments : List (List ℕ) → Result Arguments ArgumentsError
arguments [] = Err NoHead
arguments (h ∷ []) = arguments_of (head_asked h) (Ok 20) (Ok None)
arguments (h ∷ t ∷ []) = arguments_of (head_asked h) (length_of t) (Ok None)
arguments (h ∷ t ∷ q ∷ []) = arguments_of (head_asked h) (length_of t) (some_reads (reads_of q))
arguments (h ∷ t ∷ q ∷ w ∷ ws) = Err TooMany
