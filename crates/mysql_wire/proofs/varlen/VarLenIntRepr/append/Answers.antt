use Rattle.std.proofs.Common.{◌≡◌, ◌++◌, ◌∷◌, [], rules, sym, ◌∙◌, append_assoc}
use Rattle.mysql_wire.specs.Writing.{le_bytes}
use Rattle.mysql_wire.proofs.Varlens.{bytes_nine}
use Rattle.mysql_wire.proofs.varlen.VarLenIntRepr.append.Goals as goal

pub returns-then-size-eq9-clause-items : goal.returns-then-size-eq9-clause-items
returns-then-size-eq9-clause-items g c =
    let pushed : g.O.Buffer.held c.push_byte.new.self ≡ g.O.Buffer.held c.args.out.now ++ 255 ∷ [] = search rules in
    rw (bytes_nine c.args.value (sym c.varlen_uint_size-size.ensures.value ∙ c.if-size-eq9.true), c.append.ensures.items, pushed)
    (append_assoc (g.O.Buffer.held c.args.out.now) (255 ∷ []) (le_bytes 8 c.args.value))
