use Rattle.std.proofs.Common.{◌≡◌, ◌++◌, ◌∙◌, ap, subst}
use Rattle.std.specs.Prelude.{IfOk}
use Rattle.mysql_frames.specs.Frames.{AppendsFrames}
use Rattle.mysql_frames.proofs.writer.write_long_packet.Goals as goal

pub returns-clause-framed : goal.returns-clause-framed
returns-clause-framed g c =
    let bytes = g.P.MySerialize.bytes c.args.packet.now in
    let is : c.as_slice.result.now ≡ bytes = c.as_slice.ensures.value ∙ c.in_ok-serialize.ensures.ok ∙ ap (λ xs. xs ++ bytes) c.new-payload.ensures.items in
    subst (λ payload. IfOk c.write_long.result (λ after. AppendsFrames c.args.number payload after c.args.out.now.items c.write_long.new.out.items)) is c.write_long.ensures.framed
