-- What words of a script name, and its lines ask for.
use Rattle.std.specs.Prelude.{ℕ, if◌then◌else◌, ◌&&◌, List, [], ◌∷◌, Some, None, Option, codes}
use Rattle.std.specs.Result.{result_ok}
use Rattle.std.specs.Str.{bytes_eq}
use Rattle.heads.specs.Any.{head_named}
use Rattle.heads.specs.declared.any.HeadKind.{HeadKind}
use Rattle.heads.specs.declared.any.HeadKind.TheVariants.{StalledDome}
use Rattle.scripts.specs.declared.line.Line.{Line}
use Rattle.scripts.specs.declared.line.Line.TheVariants.{Head}

-- a stalled dome has two words
abbrev pub two_words : List ℕ → List ℕ → Option HeadKind
two_words w m = if bytes_eq w (codes "dome") && bytes_eq m (codes "stalled") then Some StalledDome else None

-- the head that the words behind `head` name
abbrev pub head_in_script : List (List ℕ) → Option HeadKind
head_in_script (w ∷ []) = if bytes_eq w (codes "stalled") then None else result_ok (head_named w)
head_in_script (w ∷ m ∷ []) = two_words w m
head_in_script ws = None

-- the head that a line asks for
abbrev pub kind_asked : Line → Option HeadKind
kind_asked (Head kind) = Some kind
kind_asked line = None
