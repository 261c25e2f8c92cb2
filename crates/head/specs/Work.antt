-- What a slot holds, by the work that the code keeps of it.
use Rattle.std.specs.Prelude.{Some, None, Option}
use Rattle.head.specs.declared.work.Work.{Work}
use Rattle.head.specs.Meaning.{Slot, idle, busy}

abbrev pub slot_of : Option Work → Slot
slot_of None = idle
slot_of (Some w) = busy w.order w.left.count
