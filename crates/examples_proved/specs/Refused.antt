-- What a reading is refused for.
use Rattle.std.specs.Prelude.{Option, Some, None, Result, Ok, Err}

abbrev pub refused_for : {A E : Type 0} → Result A E → Option E
refused_for (Ok x) = None
refused_for (Err e) = Some e
