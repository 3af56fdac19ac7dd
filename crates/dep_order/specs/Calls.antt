-- What a contract sees of an order: its calls in order of issue, by number and footprint.
use Rattle.std.specs.Prelude.{ℕ}
use Rattle.cl_types.specs.declared.numbers.CallNo.{CallNo}
use Rattle.client_model.specs.Order.{Footprint}

-- the number of a call
abbrev pub number_of : ℕ × Footprint → CallNo
number_of k = record { 0 = k.0 }
