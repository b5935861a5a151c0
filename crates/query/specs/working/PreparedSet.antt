-- What every query stands on, of the set as it is handed on.
use Rattle.stored.specs.declared.set.LabelSet.{LabelSet}
use Rattle.query.specs.working.Prepared.{Prepared}

-- The check accepts the set's files, and its tables are filled
abbrev pub IsPrepared : LabelSet → Type 0
IsPrepared set = Prepared set.net.now set.labels.now set.depths.now set.tables.now
