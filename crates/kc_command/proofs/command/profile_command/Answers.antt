use Rattle.std.proofs.Common.{ap, sym, subst}
use Rattle.std.proofs.lemmas.Result.{IfOk-weaker}
use Rattle.clap.specs.Words.{App}
use Rattle.kc_command.specs.Command.{profile_shape}
use Rattle.kc_command.proofs.CommandLemmas.{HaveRules, all_added}
use Rattle.kc_command.proofs.command.profile_command.Goals as goal

pub returns : goal.returns
returns c =
    let have : HaveRules c.in_ok-arguments.arguments.items profile_shape.rules =
    subst (λ arguments. HaveRules arguments profile_shape.rules) (sym c.in_ok-arguments.ensures.items)
    ((
      c.arg.ensures.own,
      c.arg.ensures.rule,
      (
        c.output.ensures.own,
        c.output.ensures.rule,
        (
          c.arg-2.ensures.own,
          c.arg-2.ensures.rule,
          (
            c.table.ensures.own,
            c.table.ensures.rule,
            (
              c.files.ensures.own,
              c.files.ensures.rule,
              tt,
            ),
          ),
        ),
      ),
    )
    ) in
    IfOk-weaker c.args-2.result _ _
    (λ command adds. ap (λ (a : App). a.top) (all_added c.command_with_help.result command _ c.in_ok-arguments.arguments.items profile_shape.rules adds have c.command_with_help.ensures)) c.args-2.ensures
