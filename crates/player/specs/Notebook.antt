-- A notebook as its callers see it.
use Rattle.std.specs.Prelude.{ℕ}
use Rattle.player.specs.declared.notebook.Notebook.{Notebook}
use Rattle.player.specs.Hands.{room}

-- how many commands it has room for
abbrev pub room_in : Notebook → ℕ
room_in n = room n.held n.log
