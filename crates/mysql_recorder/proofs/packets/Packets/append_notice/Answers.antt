use Rattle.std.proofs.Common.{string_bytes}
use Rattle.mysql_recorder.proofs.Stays.{front_stays}
use Rattle.std.proofs.Common.{◌∷◌, []}
use Rattle.mysql_recorder.proofs.Notices.{notice_appended}
use Rattle.mysql_recorder.proofs.packets.Packets.append_notice.Goals as goal

pub returns-clause-stays : goal.returns-clause-stays
returns-clause-stays c = front_stays c.append.result _ (string_bytes c.args.out.now) (string_bytes c.append.new.out) c.append.ensures.begins c.append.ensures.err

pub returns-clause-text : goal.returns-clause-text
returns-clause-text c = notice_appended c.append.result c.args.self.now.layout (record { side = c.args.side; exchange = c.notice_exchange.result; kind = c.args.kind }) (c.args.field ∷ []) _ (string_bytes c.args.out.now) (string_bytes c.append.new.out) c.notice_exchange.ensures c.append.ensures.ok
