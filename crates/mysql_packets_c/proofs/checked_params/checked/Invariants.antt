use Rattle.std.proofs.Common.{◌≡◌, ◌*◌, ◌-◌, ◌≤◌, false, true, length, take}
use Rattle.std.specs.List.{flat_map}
use Rattle.mysql_wire.specs.Writing.{saturated}
use Rattle.mysql_packets_c.specs.CheckedParams.{has_null, may_send, sent_bytes}
use Rattle.mysql_packets_c.proofs.checked_params.checked.Given as goal

abbrev pub invariant-loop-parameter : goal.invariant-loop-parameter
invariant-loop-parameter l = record {
  sends : may_send (take l.parameter-index l.items) ≡ true;
  few : l.numbers ≤ l.parameter-index;
  numbers : 8 * l.numbers ≤ length (flat_map sent_bytes (take l.parameter-index l.items));
  len : l.len ≡ saturated (length (flat_map sent_bytes (take l.parameter-index l.items)) - 8 * l.numbers);
  nulls : l.has_empty ≡ false → has_null (take l.parameter-index l.items) ≡ false;
}
