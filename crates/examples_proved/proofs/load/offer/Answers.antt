use Rattle.std.proofs.Common.{rules, ◌≡◌, ◌++◌, ◌∷◌, [], map, Ok, ℕ, subst, ap, ◌∙◌}
use Rattle.std.specs.Global.{Vec}
use Rattle.std.proofs.lemmas.List.{map-append}
use Rattle.mysql_packets.specs.ValueRef.{ref_content}
use Rattle.mysql_packets.specs.RequestWriter.{AddsAsBuilder}
use Rattle.examples_proved.specs.Stream.{bytes_of}
use Rattle.examples_proved.proofs.Steps.{stepped, closed}
use Rattle.examples_proved.proofs.load.offer.Goals as goal

pub returns-then-taken : goal.returns-then-taken
returns-then-taken c = stepped c.args.writer.now c.add_row_refs.new.self (map ref_content c.args.row.now) (bytes_of c.args.requests.now.items)
    (subst (λ b. AddsAsBuilder c.args.writer.now (map ref_content c.args.row.now) (Ok b) c.add_row_refs.new.self) c.if-taken.true c.in_ok-taken.ensures.adds)

pub returns : goal.returns
returns c =
    let w = c.args.writer.now in
    let row = map ref_content c.args.row.now in
    let full = c.add_row_refs.new.self in
    let adds = subst (λ b. AddsAsBuilder w row (Ok b) full) c.if-taken.false c.in_ok-taken.ensures.adds in
    let pushed : c.push.new.self.items ≡ c.args.requests.now.items ++ c.in-Ok.copy ∷ [] = search rules in
    closed w full c.finish.new.self c.offer_first.new.writer row (bytes_of c.args.requests.now.items) (bytes_of c.push.new.self.items) c.in-Ok.copy.items adds
    (c.in-Ok.ensures.items ∙ c.in-Some.ensures.bytes)
    c.finish.ensures.finishes c.in_ok-offer_first.ensures
    (ap bytes_of pushed ∙ map-append (λ (r : Vec ℕ). r.items) c.args.requests.now.items (c.in-Ok.copy ∷ []))
