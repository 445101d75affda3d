use Rattle.std.proofs.Common.{map, refl, ap, inl, Err}
use Rattle.mysql_bulk.specs.declared.error.BulkRowError.TheVariants.{TooLarge}
use Rattle.mysql_bulk.specs.BulkValue.{cell_of}
use Rattle.mysql_bulk.specs.ValuesRun.{Offered, OfferRefused, bytes_of}
use Rattle.mysql_bulk.proofs.ValuesRun.{again_kept, again_refused, again_taken, answered_err, answered_ok}
use Rattle.mysql_bulk.proofs.request_writer.BulkRequestWriter.offer_values.Goals as goal

pub returns-in-Err-clause-refused : goal.returns-in-Err-clause-refused
returns-in-Err-clause-refused c = inl (c.in-Err.ensures.adds, refl, λ e has. c.in-Err.ensures.no_memory has (ap Err e))

pub returns-in-Ok-add_row_values-clause-ok : goal.returns-in-Ok-add_row_values-clause-ok
returns-in-Ok-add_row_values-clause-ok c =
    let u = c.args.self.now in
    let row = map cell_of c.args.row.now in
    let q = bytes_of c.args.requests.now.items in
    let more = bytes_of c.send_request.new.requests.items in
    answered_ok c.answer_of.result c.in-Ok-add_row_values.fits_alone (Offered u row q c.add_row_values-2.new.self more) c.answer_of.ensures
    (λ is. again_taken u c.add_row_values.new.self c.send_request.new.self c.add_row_values-2.new.self row c.in-Ok.is_taken c.in-Ok-add_row_values.fits_alone q more c.in-Ok.ensures.adds c.if-is_taken.false
    (c.in-Ok.ensures.waits c.if-is_taken.false) c.in-Ok-send_request.ensures.lets_go c.in-Ok-send_request.ensures.sent c.in-Ok-add_row_values.ensures.adds is)

pub returns-in-Ok-add_row_values-clause-refused : goal.returns-in-Ok-add_row_values-clause-refused
returns-in-Ok-add_row_values-clause-refused c =
    let u = c.args.self.now in
    let row = map cell_of c.args.row.now in
    let q = bytes_of c.args.requests.now.items in
    let more = bytes_of c.send_request.new.requests.items in
    answered_err c.answer_of.result c.in-Ok-add_row_values.fits_alone (λ e. OfferRefused u row q e c.add_row_values-2.new.self more) c.answer_of.ensures
    (λ is. again_kept u c.add_row_values.new.self c.send_request.new.self c.add_row_values-2.new.self row c.in-Ok.is_taken c.in-Ok-add_row_values.fits_alone q more TooLarge c.in-Ok.ensures.adds c.if-is_taken.false
    (c.in-Ok.ensures.waits c.if-is_taken.false) c.in-Ok-send_request.ensures.lets_go c.in-Ok-add_row_values.ensures.adds is (c.in-Ok-add_row_values.ensures.waits is))

pub returns-in-Err-add_row_values-clause-refused : goal.returns-in-Err-add_row_values-clause-refused
returns-in-Err-add_row_values-clause-refused c =
    let u = c.args.self.now in
    let row = map cell_of c.args.row.now in
    again_refused u c.add_row_values.new.self c.send_request.new.self c.add_row_values-2.new.self row c.in-Ok.is_taken (bytes_of c.args.requests.now.items) (bytes_of c.send_request.new.requests.items) c.in-Err-add_row_values.refusal
    c.in-Ok.ensures.adds c.if-is_taken.false (c.in-Ok.ensures.waits c.if-is_taken.false) c.in-Ok-send_request.ensures.lets_go c.in-Ok-send_request.ensures.sent c.in-Err-add_row_values.ensures.adds
    (λ e has. c.in-Err-add_row_values.ensures.no_memory has (ap Err e))
