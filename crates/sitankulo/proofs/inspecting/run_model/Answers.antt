-- `sitankulo::inspecting::run_model` meets its contract.
use Rattle.std.proofs.Common.{◌≡◌, length, arith}
use Rattle.std.proofs.lemmas.Grind.{common_steps}
use Rattle.wire.specs.Numbers.{words_of}
use Rattle.sitankulo.proofs.LawsModel.{few_told, ran}
use Rattle.sitankulo.proofs.inspecting.run_model.Goals.{After-run}
use Rattle.sitankulo.proofs.inspecting.run_model.Goals as goal

whole : (c : After-run) → length c.args.words.now ≡ 32
whole c = grind (arith, common_steps)

words : (c : After-run) → c.in_ok-words.words ≡ words_of c.args.words.now
words c = grind (arith, common_steps)

pub report_number-requires : goal.report_number-requires
report_number-requires c =
    let at = (goal.at.report_number-requires c).After-run in
    few_told c.args.words.now _ _ _ _ _ _ _ (words at) c.run.result _ _ c.run.ensures

pub returns : goal.returns
returns c =
    let at = (goal.at.returns c).After-run in
    ran c.args.words.now _ _ _ _ _ _ _ (words at) c.run.result _ _ c.run.ensures (whole at) _ c.report_number.ensures
