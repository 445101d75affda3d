use Rattle.std.proofs.Common.{sym, ◌∙◌, subst, true, false}
use Rattle.mysql_conversation.specs.Session.{TakenIn}
use Rattle.mysql_conversation.proofs.SessionGoesOn.{greeting_goes_on, login_error_goes_on, login_goes_on, commands_go_on}
use Rattle.mysql_conversation.proofs.session.Session.may_receive.Goals as goal

pub returns-in-Commands : goal.returns-in-Commands
returns-in-Commands c = λ items t.
    commands_go_on c.in-Commands.pipeline c.args.from c.args.name items _ c.may_receive.ensures (subst (λ ph. TakenIn ph items) c.in-Commands.is t)

pub returns-in-Greeting : goal.returns-in-Greeting
returns-in-Greeting c = λ items t.
    let g = greeting_goes_on c.args.from c.args.name items (subst (λ ph. TakenIn ph items) c.in-Greeting.is t) in
    ((λ e. g.0 (sym c.is_greeting.ensures ∙ e)), (λ k. c.is_greeting.ensures ∙ g.1 k))

pub returns-in-NoLogin : goal.returns-in-NoLogin
returns-in-NoLogin c = λ items t.
    let g = login_error_goes_on c.args.from c.args.name items (subst (λ ph. TakenIn ph items) c.in-NoLogin.is t) in
    ((λ e. g.0 (sym c.is_login_error.ensures ∙ e)), (λ k. c.is_login_error.ensures ∙ g.1 k))

pub returns-in-Login : goal.returns-in-Login
returns-in-Login c = λ items t.
    let g = login_goes_on c.in-Login._server false c.args.from c.args.name items (subst (λ ph. TakenIn ph items) c.in-Login.is t) in
    ((λ e. g.0 (sym c.is_login.ensures ∙ e)), (λ k. c.is_login.ensures ∙ g.1 k))

pub returns-in-Encrypted : goal.returns-in-Encrypted
returns-in-Encrypted c = λ items t.
    let g = login_goes_on c.in-Encrypted._server true c.args.from c.args.name items (subst (λ ph. TakenIn ph items) c.in-Encrypted.is t) in
    ((λ e. g.0 (sym c.is_login-in-Encrypted.ensures ∙ e)), (λ k. c.is_login-in-Encrypted.ensures ∙ g.1 k))

pub returns-in-InTls : goal.returns-in-InTls
returns-in-InTls c = λ items t.
    let g = login_goes_on c.in-InTls._server true c.args.from c.args.name items (subst (λ ph. TakenIn ph items) c.in-InTls.is t) in
    ((λ e. g.0 (sym c.is_login-in-InTls.ensures ∙ e)), (λ k. c.is_login-in-InTls.ensures ∙ g.1 k))
