use Rattle.std.proofs.Common.{Ok, refl}
use Rattle.clap.specs.Words.{App, with_subcommand}
use Rattle.kc_command.specs.Command.{bare_app, compare_shape, count_shape, dump_shape, filter_shape, histo_shape, intersect_shape, merge_shape, profile_shape, query_shape, select_shape, stats_shape, subtract_shape}
use Rattle.kc_command.proofs.CommandLemmas.{with_one}
use Rattle.kc_command.proofs.command.command.Goals as goal

pub returns : goal.returns
returns c =
    let counting : App = with_subcommand bare_app count_shape in
    let dumping : App = with_subcommand counting dump_shape in
    let with_histo : App = with_subcommand dumping histo_shape in
    let with_stats : App = with_subcommand with_histo stats_shape in
    let with_query : App = with_subcommand with_stats query_shape in
    let with_merge : App = with_subcommand with_query merge_shape in
    let with_intersect : App = with_subcommand with_merge intersect_shape in
    let with_subtract : App = with_subcommand with_intersect subtract_shape in
    let with_filter : App = with_subcommand with_subtract filter_shape in
    let with_compare : App = with_subcommand with_filter compare_shape in
    let with_select : App = with_subcommand with_compare select_shape in
    let one = with_one (Ok c.without_commands.result) c.count_command.result c.with_command-command.result bare_app count_shape c.without_commands.ensures c.count_command.ensures refl c.with_command-command.ensures in
    let two = with_one c.with_command-command.result c.dump_command.result c.with_command-command-2.result counting dump_shape one c.dump_command.ensures refl c.with_command-command-2.ensures in
    let three = with_one c.with_command-command-2.result c.histo_command.result c.with_command-command-3.result dumping histo_shape two c.histo_command.ensures refl c.with_command-command-3.ensures in
    let four = with_one c.with_command-command-3.result c.stats_command.result c.with_command-command-4.result with_histo stats_shape three c.stats_command.ensures refl c.with_command-command-4.ensures in
    let five = with_one c.with_command-command-4.result c.query_command.result c.with_command-command-5.result with_stats query_shape four c.query_command.ensures refl c.with_command-command-5.ensures in
    let six = with_one c.with_command-command-5.result c.merge_command.result c.with_command-command-6.result with_query merge_shape five c.merge_command.ensures refl c.with_command-command-6.ensures in
    let seven = with_one c.with_command-command-6.result c.intersect_command.result c.with_command-command-7.result with_merge intersect_shape six c.intersect_command.ensures refl c.with_command-command-7.ensures in
    let eight = with_one c.with_command-command-7.result c.subtract_command.result c.with_command-command-8.result with_intersect subtract_shape seven c.subtract_command.ensures refl c.with_command-command-8.ensures in
    let nine = with_one c.with_command-command-8.result c.filter_command.result c.with_command-command-9.result with_subtract filter_shape eight c.filter_command.ensures refl c.with_command-command-9.ensures in
    let ten = with_one c.with_command-command-9.result c.compare_command.result c.with_command-command-10.result with_filter compare_shape nine c.compare_command.ensures refl c.with_command-command-10.ensures in
    let eleven = with_one c.with_command-command-10.result c.select_command.result c.with_command-command-11.result with_compare select_shape ten c.select_command.ensures refl c.with_command-command-11.ensures in
    with_one c.with_command-command-11.result c.profile_command.result c.with_command.result with_select profile_shape eleven c.profile_command.ensures refl c.with_command.ensures
