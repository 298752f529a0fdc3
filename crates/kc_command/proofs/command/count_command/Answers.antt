use Rattle.std.proofs.Common.{◌∙◌, ap, sym, subst}
use Rattle.std.proofs.lemmas.Result.{IfOk-weaker}
use Rattle.clap.specs.Words.{App}
use Rattle.kc_command.specs.Command.{count_shape}
use Rattle.kc_command.specs.Options.{with_short}
use Rattle.kc_command.proofs.CommandLemmas.{HaveRules, all_added}
use Rattle.kc_command.proofs.command.count_command.Goals as goal

pub returns : goal.returns
returns c =
    let have : HaveRules c.in_ok-arguments.arguments.items count_shape.rules =
    subst (λ arguments. HaveRules arguments count_shape.rules) (sym c.in_ok-arguments.ensures.items)
    ((
      c.with_short.ensures.own ∙ c.arg.ensures.own,
      c.with_short.ensures.rule ∙ ap (with_short 109) c.arg.ensures.rule,
      (
        c.with_short-2.ensures.own ∙ c.arg-2.ensures.own,
        c.with_short-2.ensures.rule ∙ ap (with_short 115) c.arg-2.ensures.rule,
        (
          c.with_short-3.ensures.own ∙ c.arg-3.ensures.own,
          c.with_short-3.ensures.rule ∙ ap (with_short 116) c.arg-3.ensures.rule,
          (
            c.with_short-4.ensures.own ∙ c.arg-4.ensures.own,
            c.with_short-4.ensures.rule ∙ ap (with_short 67) c.arg-4.ensures.rule,
            (
              c.output.ensures.own,
              c.output.ensures.rule,
              (
                c.arg-5.ensures.own,
                c.arg-5.ensures.rule,
                (
                  c.arg-6.ensures.own,
                  c.arg-6.ensures.rule,
                  (
                    c.arg-7.ensures.own,
                    c.arg-7.ensures.rule,
                    (
                      c.arg-8.ensures.own,
                      c.arg-8.ensures.rule,
                      (
                        c.arg-9.ensures.own,
                        c.arg-9.ensures.rule,
                        (
                          c.arg-10.ensures.own,
                          c.arg-10.ensures.rule,
                          (
                            c.arg-11.ensures.own,
                            c.arg-11.ensures.rule,
                            (
                              c.arg-12.ensures.own,
                              c.arg-12.ensures.rule,
                              (
                                c.arg-13.ensures.own,
                                c.arg-13.ensures.rule,
                                (
                                  c.arg-14.ensures.own,
                                  c.arg-14.ensures.rule,
                                  (
                                    c.arg-15.ensures.own,
                                    c.arg-15.ensures.rule,
                                    (
                                      c.files.ensures.own,
                                      c.files.ensures.rule,
                                      tt,
                                    ),
                                  ),
                                ),
                              ),
                            ),
                          ),
                        ),
                      ),
                    ),
                  ),
                ),
              ),
            ),
          ),
        ),
      ),
    )
    ) in
    IfOk-weaker c.args-2.result _ _
    (λ command adds. ap (λ (a : App). a.top) (all_added c.command_with_help.result command _ c.in_ok-arguments.arguments.items count_shape.rules adds have c.command_with_help.ensures)) c.args-2.ensures
