-- A tick of the wild head is one of every head.
use Rattle.std.proofs.Common.{◌≡◌}
use Rattle.head.specs.declared.outcome.Endings.{Endings}
use Rattle.head.specs.declared.setting.Setting.{Setting}
use Rattle.head.specs.Settings.{position}
use Rattle.head.specs.Meaning.{Meaning, SlotTicked, Ticked}
use Rattle.head.proofs.Relax.{lawful}
use Rattle.head.proofs.Tables.{axis_is}
use Rattle.wild.specs.Wilds.{Goes}

pub ticked : (m m' : Meaning) (e : Endings) → m'.pantilt ≡ m.pantilt → SlotTicked m.slots.one e.one m'.slots.one → SlotTicked m.slots.two e.two m'.slots.two
    → ((s : Setting) → Goes m e s (m'.setting s)) → Ticked m e m'
ticked m m' e p one two goes = lawful m e m' (record {
  pantilt = p;
  one = one;
  two = two;
  by_one = λ s. (goes s).by_one;
  by_two = λ s. (goes s).by_two;
  driven = λ a free u. (goes (position a)).driven a u (axis_is a);
  stands = λ s free. (goes s).stands;
})
