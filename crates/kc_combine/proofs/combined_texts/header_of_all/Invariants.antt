use Rattle.std.proofs.Common.{◌≡◌, ◌≤◌, length, map, take, vec_capacity}
use Rattle.kc_combine.specs.CombinedTexts.{header_of}
use Rattle.kc_combine.proofs.combined_texts.header_of_all.Given as goal

abbrev pub invariant-openings : goal.invariant-openings
invariant-openings l = record {
  headers : l.headers.items ≡ map header_of (take l.opening-index l.openings);
  room : length l.openings ≤ vec_capacity l.headers;
}
