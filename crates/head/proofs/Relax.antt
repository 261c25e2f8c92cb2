-- The way from a tick that leaves no setting free to the tick of every head. Heads that move nothing by themselves prove the
-- first and cite this; what other heads may leave free is no concern of theirs.
use Rattle.head.specs.declared.outcome.Endings.{Endings}
use Rattle.head.specs.declared.setting.Setting.{Setting}
use Rattle.head.specs.Meaning.{Meaning, TickedBut, Ticked, Strict}

relax : {free : Setting → Type 0} (m : Meaning) (e : Endings) (m' : Meaning) → Strict m e m' → TickedBut free m e m'
relax m e m' h = record {
  pantilt = h.pantilt;
  one = h.one;
  two = h.two;
  by_one = h.by_one;
  by_two = h.by_two;
  driven = λ a f. h.driven a (λ n. n);
  stands = λ s f. h.stands s (λ n. n);
}

pub lawful : (m : Meaning) (e : Endings) (m' : Meaning) → Strict m e m' → Ticked m e m'
lawful m e m' h = relax m e m' h
