-- Fields that are appended to others are those of a packet.
use Rattle.std.proofs.Common.{◌≡◌, inr, ◌<◌, ◌≤◌, ◌-◌, ℕ, List, [], ◌∷◌, ◌++◌, arith, length, length-drop, drop, take, Option, Some, Result, Ok, Err, OnOk, codes, refl, ap, subst, append_assoc, sym, ◌∙◌}
use Rattle.std.proofs.lemmas.List.{take_all}
use Rattle.mysql_wire.specs.declared.fault.FaultOf.{FaultOf}
use Rattle.mysql_conversation.specs.declared.packet_kind.PacketKind.{PacketKind}
use Rattle.mysql_stmt.specs.ExecuteRead.{ParamsLeft}
use Rattle.mysql_stmt.specs.declared.execute_head.ComStmtExecuteHead.{ComStmtExecuteHead}
use Rattle.mysql_statements.specs.PipelinedCommands.{Command as Waiting}
use Rattle.mysql_statements.specs.declared.row_column.RowColumn.{RowColumn}
use Rattle.mysql_observer.specs.Observed.{tracked}
use Rattle.mysql_observer.specs.Tracked.{Reached}
use Rattle.mysql_observer.specs.declared.observer.Observer.{Observer}
use Rattle.mysql_observer.specs.declared.record.ClientRecord.{ClientRecord}
use Rattle.mysql_observer.specs.declared.record.ClientRecord.TheVariants as record_of
use Rattle.mysql_observer.specs.declared.server.ServerPacket.{ServerPacket}
use Rattle.mysql_observer.specs.declared.server.ServerPacket.TheVariants as packet
use Rattle.mysql_show.specs.Fields.{Said, said, Number}
use Rattle.mysql_show.specs.Replies.{ok_fields, terminator_fields}
use Rattle.mysql_recorder.specs.ChangeFields.{changes_fields}
use Rattle.mysql_recorder.specs.RecordFields.{AreClientFields, AreKnownParams, AreOfClient, AreOfReached, AreReachedFields, AreServerFields, HasFault, ReturnsClient, ReturnsReached, ReturnsServer, command_name}
use Rattle.mysql_recorder.specs.ServerFields.{AppendsServer, server_fields}
use Rattle.mysql_recorder.specs.ValueFields.{AreParams, fault_text, refused_at}

-- ---- the client's

pub client_appended : {E : Type 0} (r : Result (Unit {0}) E) (o : Observer) (k : PacketKind) (p : List ℕ) (x : Result ClientRecord FaultOf) (first named all : List Said) → named ≡ first ++ command_name k → ReturnsClient o k p x
    → OnOk r ((own : List Said) × AreOfClient k p x own × (all ≡ named ++ own)) → OnOk r ((more : List Said) × AreClientFields o k p more × (all ≡ first ++ more))
client_appended (Ok u) o k p x first named all e returns h =
    (command_name k ++ h.0, (x, h.0, returns, h.1, refl), h.2 ∙ ap (λ q. q ++ h.0) e ∙ append_assoc first (command_name k) h.0)
client_appended (Err d) o k p x first named all e returns h = tt

-- ---- the server's

-- the fields of a packet, after others
server_after : {C : Type 0} (p : ServerPacket C) (first params mid all : List Said) → mid ≡ first ++ params → AppendsServer p mid all → (fields : List Said) × AppendsServer p params fields × (all ≡ first ++ fields)
server_after (packet.Ok ok) first params mid all e h = (
  (params ++ ok_fields ok) ++ changes_fields h.0,
  (h.0, h.1, refl),
  h.2 ∙ ap (λ q. (q ++ ok_fields ok) ++ changes_fields h.0) e ∙ ap (λ q. q ++ changes_fields h.0) (append_assoc first params (ok_fields ok)) ∙ append_assoc first (params ++ ok_fields ok) (changes_fields h.0),
)
server_after (packet.OkTerminator end) first params mid all e h = (
  (params ++ terminator_fields end) ++ changes_fields h.0,
  (h.0, h.1, refl),
  h.2 ∙ ap (λ q. (q ++ terminator_fields end) ++ changes_fields h.0) e ∙ ap (λ q. q ++ changes_fields h.0) (append_assoc first params (terminator_fields end))
      ∙ append_assoc first (params ++ terminator_fields end) (changes_fields h.0),
)
server_after p first params mid all e h = (params ++ server_fields p, refl, h ∙ ap (λ q. q ++ server_fields p) e ∙ append_assoc first params (server_fields p))

pub server_appended : {E : Type 0} (r : Result (Unit {0}) E) (o : Observer) (k : PacketKind) (p : List ℕ) (x : ServerPacket RowColumn) (first mid all : List Said) → ReturnsServer o k p (Ok x)
    → (params : List Said) × AreReachedFields o (tracked o).reached params × (mid ≡ first ++ params) → OnOk r (AppendsServer x mid all)
    → OnOk r ((more : List Said) × AreServerFields o k p more × (all ≡ first ++ more))
server_appended (Ok u) o k p x first mid all returns h g = let f = server_after x first h.0 mid all h.2 g in (f.0, (Ok x, h.0, h.1, returns, f.1), f.2)
server_appended (Err d) o k p x first mid all returns h g = tt

pub fault_appended : {E : Type 0} (r : Result (Unit {0}) E) (o : Observer) (k : PacketKind) (p : List ℕ) (e : FaultOf) (first mid all : List Said) → ReturnsServer o k p (Err e)
    → (params : List Said) × AreReachedFields o (tracked o).reached params × (mid ≡ first ++ params) → OnOk r ((fields : List Said) × HasFault e fields × (all ≡ mid ++ fields))
    → OnOk r ((more : List Said) × AreServerFields o k p more × (all ≡ first ++ more))
fault_appended (Ok u) o k p e first mid all returns h g =
    (h.0 ++ g.0, (Err e, h.0, h.1, returns, (g.0, g.1, refl)), g.2 ∙ ap (λ q. q ++ g.0) h.2 ∙ append_assoc first h.0 g.0)
fault_appended (Err d) o k p e first mid all returns h g = tt

-- ---- a pipelined execution

pub reached_appended : {E : Type 0} (s : Result (Unit {0}) E) (o : Observer) (reached : Option Reached) (r : Reached) (c : Waiting) (p : List ℕ) (n : ℕ) (x : Result ClientRecord FaultOf) (first all : List Said)
    → reached ≡ Some r → c ≡ r.command → p ≡ c.payload → n ≡ c.number → 10 < length p → ReturnsReached o p x → OnOk s ((more : List Said) × AreOfReached n p x more × (all ≡ first ++ more))
    → OnOk s ((more : List Said) × AreReachedFields o reached more × (all ≡ first ++ more))
reached_appended (Ok u) o reached r c p n x first all e f g number long returns h =
    let same : p ≡ r.command.payload = g ∙ ap (λ (y : Waiting). y.payload) f in
    let of : n ≡ r.command.number = number ∙ ap (λ (y : Waiting). y.number) f in (
      h.0,
      subst (λ y. AreReachedFields o y h.0) (sym e)
          (inr (x, subst (λ q. 10 < length q) same long, subst (λ q. ReturnsReached o q x) same returns, subst (λ m. AreOfReached m r.command.payload x h.0) of (subst (λ q. AreOfReached n q x h.0) same h.1))),
      h.2,
    )
reached_appended (Err d) o reached r c p n x first all e f g number long returns h = tt

pub params_appended : {E : Type 0} (r : Result (Unit {0}) E) (n : ℕ) (returned : ClientRecord) (head : ComStmtExecuteHead) (view : ParamsLeft) (first mid all : List Said) (x : Said) → returned ≡ record_of.Execution head view
    → mid ≡ first ++ x ∷ [] → x ≡ said (codes "parameters_of") (Number n) → OnOk r ((params : List Said) × AreParams view params × (all ≡ mid ++ params))
    → OnOk r ((more : List Said) × AreKnownParams n returned more × (all ≡ first ++ more))
params_appended (Ok u) n returned head view first mid all x is e f h = (
  said (codes "parameters_of") (Number n) ∷ h.0,
  subst (λ y. AreKnownParams n y (said (codes "parameters_of") (Number n) ∷ h.0)) (sym is) (h.0, h.1, refl),
  h.2 ∙ ap (λ q. q ++ h.0) e ∙ append_assoc first (x ∷ []) h.0 ∙ ap (λ y. first ++ y ∷ h.0) f,
)
params_appended (Err d) n returned head view first mid all x is e f h = tt

pub reached_fault : {E : Type 0} (r : Result (Unit {0}) E) (n : ℕ) (p : List ℕ) (e : FaultOf) (first mid all : List Said) (x : Said) → mid ≡ first ++ x ∷ [] → x ≡ said (codes "parameters_of") (Number n)
    → OnOk r (all ≡ mid ++ refused_at (fault_text e) (take (length p - 10) (drop 10 p))) → OnOk r ((more : List Said) × AreOfReached n p (Err e) more × (all ≡ first ++ more))
reached_fault (Ok u) n p e first mid all x f g h =
    let long : length (drop 10 p) ≤ length p - 10 = omega (arith, length-drop 10 p) in
    let rest : take (length p - 10) (drop 10 p) ≡ drop 10 p = take_all (length p - 10) (drop 10 p) long in (
      said (codes "parameters_of") (Number n) ∷ refused_at (fault_text e) (drop 10 p),
      refl,
      h ∙ ap (λ q. mid ++ refused_at (fault_text e) q) rest ∙ ap (λ q. q ++ refused_at (fault_text e) (drop 10 p)) f ∙ append_assoc first (x ∷ []) (refused_at (fault_text e) (drop 10 p))
          ∙ ap (λ y. first ++ y ∷ refused_at (fault_text e) (drop 10 p)) g,
    )
reached_fault (Err d) n p e first mid all x f g h = tt
