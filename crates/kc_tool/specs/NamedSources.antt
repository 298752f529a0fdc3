-- Sources with names: this project's own.
use Rattle.std.specs.Prelude.{List, map}
use Rattle.clap.specs.Words.{Text}
use Rattle.kc_io.specs.Sources.{Seen}
use Rattle.kc_tool.specs.declared.named_sources.NamedSource.{NamedSource}

-- the names of the sources, in order
abbrev pub names_of : {S : Type 0} → List (NamedSource S) → List Text
names_of sources = map (λ source. source.name.now) sources

-- the views of the sources, in order
abbrev pub seen_of : {S : Type 0} → (S → Seen) → List (NamedSource S) → List Seen
seen_of seen sources = map (λ source. seen source.source) sources
