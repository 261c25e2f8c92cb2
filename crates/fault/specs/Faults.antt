-- Faults by number, layer and place.
use Rattle.std.specs.Prelude.{ℕ}
use Rattle.fault.specs.declared.code.FaultCode.{FaultCode}
use Rattle.fault.specs.declared.code.Layer.{Layer}
use Rattle.fault.specs.declared.code.Layer.TheVariants.{Call, Framing, Packet, Row}

-- the layers by number
abbrev pub layer_number : Layer → ℕ
layer_number Call = 0
layer_number Framing = 1
layer_number Packet = 2
layer_number Row = 3

-- a fault by its number, layer and place
abbrev pub fault_code : ℕ → Layer → ℕ → FaultCode
fault_code n l p = record { number = n; layer = l; place = p }
