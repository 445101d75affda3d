use Rattle.mysql_wire.proofs.Varlens.{word_fits}
use Rattle.mysql_wire.proofs.varlen.above_ones.Goals as goal

pub overflow_sub-result-2 : goal.overflow_sub-result-2
overflow_sub-result-2 c = (word_fits c.args.value c.args.size c.requires.some c.requires.most c.requires.fits).2

pub overflow_add-result : goal.overflow_add-result
overflow_add-result c =
    let w = word_fits c.args.value c.args.size c.requires.some c.requires.most c.requires.fits in
    rw w.0 (record { fits = w.1 })

pub returns : goal.returns
returns c = (word_fits c.args.value c.args.size c.requires.some c.requires.most c.requires.fits).0
