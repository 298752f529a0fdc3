use Rattle.std.proofs.Common.{ap}
use Rattle.std.specs.Prelude.{option_map}
use Rattle.clap.specs.Words.{found_of, rows_of}
use Rattle.kc_command.specs.Settings.{lowered}
use Rattle.kc_command.proofs.ArgumentsLemmas.{asked_stripes}
use Rattle.kc_command.proofs.settings_of_options.counting_options.Goals as goal

pub with_stripes-requires : goal.with_stripes-requires
with_stripes-requires c = asked_stripes (rows_of (found_of c.args.matches.now)) c.in_ok-stripes.stripes c.in_ok-stripes.ensures

pub returns-clause-asked : goal.returns-clause-asked
returns-clause-asked c =
    rw (
      c.with_batch.ensures,
      c.with_stripes.ensures,
      c.with_floor.ensures,
      c.with_both.ensures,
      c.with_workers.ensures,
      c.with_size.ensures,
      c.new.ensures,
    )
    (record {
      mer_len = c.in_ok-k.ensures;
      size = c.in_ok-size.ensures.value;
      threads = c.in_ok-workers.ensures.value;
      canonical = c.has_flag.ensures;
      min_qual_char = c.in_ok-floor.ensures.value;
      stripes = ap (option_map (lowered c.in_ok-k.k)) c.in_ok-stripes.ensures;
      batch = c.in_ok-batch.ensures.value;
    })
