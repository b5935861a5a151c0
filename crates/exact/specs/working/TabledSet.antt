-- What the sweep stands on, of the set as it is handed on.
use Rattle.stored.specs.declared.set.LabelSet.{LabelSet}
use Rattle.stored.specs.working.Formed.{FilesFit, Tables}

-- The set's files have passed every test but the last, and its tables are filled
abbrev pub IsTabled : LabelSet → Type 0
IsTabled set = FilesFit set.net.now set.labels.now × Tables set.net.now set.labels.now set.depths.now set.tables.now
