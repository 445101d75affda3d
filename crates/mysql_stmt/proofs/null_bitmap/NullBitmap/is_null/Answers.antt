use Rattle.std.proofs.Common.{rules}
use Rattle.mysql_stmt.proofs.Cells.{IsBytes, is_one}
use Rattle.mysql_stmt.proofs.null_bitmap.NullBitmap.is_null.Goals as goal

pub returns : goal.returns
returns g c =
    let fits : IsBytes c.as_slice-bytes.result.now = search rules in
    rw (← c.self.view_is, ← c.as_slice-bytes.ensures.value, ← c.BIT_OFFSET.ensures)
    (record { value = is_one c.as_slice-bytes.result.now fits c.place_of-at.result.0 c.place_of-at.result.1 _ c.place_of-at.ensures.bit c.place_of-at.ensures.place })
