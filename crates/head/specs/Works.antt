-- What both slots of a head hold, by the works that the code keeps of them.
use Rattle.head.specs.declared.works.Works.{Works}
use Rattle.head.specs.Meaning.{Slots}
use Rattle.head.specs.Work.{slot_of}

abbrev pub slots_of : Works → Slots
slots_of w = record { one = slot_of w.one; two = slot_of w.two }
