-- Which devices a command wants.
use Rattle.std.specs.Prelude.{ℕ, List, Option, Some, None}
use Rattle.lp_top.specs.declared.words.Command.{Command}
use Rattle.lp_top.specs.declared.words.Command.TheVariants.{Serve}

-- the value of `--lib`, where the words have one
abbrev pub lib_of : Command → Option (List ℕ)
lib_of (Serve serving) = Some serving.lib
lib_of command = None

-- the value of `--record`, where they have one
abbrev pub script_file_of : Command → Option (List ℕ)
script_file_of (Serve serving) = serving.record_file
script_file_of command = None

-- the value of `--port`, or 0 where they have none
abbrev pub port_of : Command → ℕ
port_of (Serve serving) = serving.port
port_of command = 0

-- the value of `--control`, or 0 where they have none
abbrev pub control_of : Command → ℕ
control_of (Serve serving) = serving.control
control_of command = 0

-- the value of `--ws`, or 0 where they have none
abbrev pub ws_of : Command → ℕ
ws_of (Serve serving) = serving.ws
ws_of command = 0
