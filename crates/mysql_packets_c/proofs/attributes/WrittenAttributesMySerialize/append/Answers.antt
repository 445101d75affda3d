use Rattle.std.proofs.Common.{length, drop, ap, sym, ◌+◌, ◌∙◌, append_assoc, arith}
use Rattle.std.proofs.lemmas.List.{drop-drop, length-append}
use Rattle.mysql_wire.specs.LenEnc.{lenenc_bytes, lenenc_string_bytes}
use Rattle.mysql_auth.specs.Attributes.{attributes, pairs_bytes}
use Rattle.mysql_auth.proofs.PairsWritten.{whole-count, string-length}
use Rattle.mysql_packets_c.specs.Attributes.{merged_pairs}
use Rattle.mysql_packets_c.proofs.attributes.WrittenAttributesMySerialize.append.Goals as goal

pub append-requires : goal.append-requires
unfolding attributes
append-requires g c =
    let content = pairs_bytes (merged_pairs c.args.self.now.0.now) in
    let count = c.pairs_len.ensures ∙ whole-count content (length (g.O.Buffer.held c.args.out.now)) (g.O.Buffer.capacity c.args.out.now) c.requires (omega (arith, c.is_in_memory.ensures)) in
    rw count (omega (arith, string-length content, c.requires))

pub append_pairs-requires : goal.append_pairs-requires
unfolding attributes
append_pairs-requires g c =
    let content = pairs_bytes (merged_pairs c.args.self.now.0.now) in
    let count = c.pairs_len.ensures ∙ whole-count content (length (g.O.Buffer.held c.args.out.now)) (g.O.Buffer.capacity c.args.out.now) c.requires (omega (arith, c.is_in_memory.ensures)) in
    let counted = ap length c.append.ensures.items ∙ length-append (g.O.Buffer.held c.args.out.now) (lenenc_bytes c.pairs_len.result) in
    let long = ap (λ n. length (lenenc_bytes n)) count in
    omega (arith, string-length content, c.requires, counted, long, c.append.ensures.capacity)

pub returns-clause-items : goal.returns-clause-items
unfolding attributes lenenc_string_bytes
returns-clause-items g c =
    let content = pairs_bytes (merged_pairs c.args.self.now.0.now) in
    let count = c.pairs_len.ensures ∙ whole-count content (length (g.O.Buffer.held c.args.out.now)) (g.O.Buffer.capacity c.args.out.now) c.requires (omega (arith, c.is_in_memory.ensures)) in
    rw (c.append_pairs.ensures.items, c.append.ensures.items, count) (append_assoc (g.O.Buffer.held c.args.out.now) (lenenc_bytes (length content)) content)

pub returns-clause-after : goal.returns-clause-after
unfolding attributes lenenc_string_bytes
returns-clause-after g c =
    let content = pairs_bytes (merged_pairs c.args.self.now.0.now) in
    let was = g.O.Buffer.after c.args.out.now in
    let count = c.pairs_len.ensures ∙ whole-count content (length (g.O.Buffer.held c.args.out.now)) (g.O.Buffer.capacity c.args.out.now) c.requires (omega (arith, c.is_in_memory.ensures)) in
    let both = drop-drop (length content) (length (lenenc_bytes c.pairs_len.result)) was in
    let long = ap (λ n. length (lenenc_bytes n) + length content) count ∙ sym (length-append (lenenc_bytes (length content)) content) in
    c.append_pairs.ensures.after ∙ ap (drop (length content)) c.append.ensures.after ∙ both ∙ ap (λ n. drop n was) long
