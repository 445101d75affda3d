use Rattle.std.proofs.Common.{◌≡◌, rules}
use Rattle.mysql_replies.specs.SessionStateInfo as spec
use Rattle.mysql_replies.proofs.AsSent.{front-spelled}
use Rattle.mysql_replies.proofs.session_state_info_ref.SessionStateInfoRef.decode.Goals as goal

pub returns-clause-spelled : goal.returns-clause-spelled
returns-clause-spelled c =
    let type : spec.data_type c.args.self.now ≡ c.self.inside.data_type.0 = search rules in
    let bytes : spec.data_bytes c.args.self.now ≡ c.rest-bytes.result = search rules in
    front-spelled c.self.inside.data_type.0 c.args.self.now c.parse.result c.rest-bytes.result c.parse.new.self type bytes c.parse.ensures.spelled
