-- What the errors of the catalog print, as the bytes of a text. Assumes nothing.
use Rattle.std.specs.Prelude.{ℕ, List, codes}
use Rattle.catalog.specs.declared.names.UnknownName.{UnknownName}
use Rattle.catalog.specs.declared.names.UnknownNumber.{UnknownNumber}

abbrev pub unknown_name_words : UnknownName → List ℕ
unknown_name_words _ = codes "no domain has that name"

abbrev pub unknown_number_words : UnknownNumber → List ℕ
unknown_number_words _ = codes "no domain has that number"
