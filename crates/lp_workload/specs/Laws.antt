-- What the script of a workload is.
use Rattle.std.specs.Prelude.{◌≡◌, ℕ, ◌<◌, ◌≤◌, ◌^◌, [], ◌∷◌, ◌++◌, length, codes}
use Rattle.lp_events.specs.declared.event.Event.TheVariants.{Line, Tick, Swap}
use Rattle.lp_events.specs.Script.{IsScript, longest_input, spellings}
use Rattle.lp_workload.specs.Workload.{events_from, workload}

-- it is a script, and so each item may stand where it stands
abbrev pub IsOneScript : Type 0
IsOneScript = (count seed : ℕ) → count < 2 ^ 32 → seed < 2 ^ 64 → IsScript (spellings (workload count seed)) (workload count seed)

-- so many events as may be asked for make a script that is not too large to be read
abbrev pub IsWithinAnInput : Type 0
IsWithinAnInput = (count seed : ℕ) → count ≤ 200000 → seed < 2 ^ 64 → length (spellings (workload count seed)) ≤ longest_input

-- Two examples: the whole script of one event with the seed 0, and the first ten events with the seed 7.
pub record Examples : Type 0 where
  pub one_event : spellings (workload 1 0) ≡ (codes "mudscript 1 0 0\n"
      ++ codes "file /obj/box.c 202\n"
      ++ codes "int *v;\n"
      ++ codes "void create() { v = ({0, 0}); }\n"
      ++ codes "int *query() { return v; }\n"
      ++ codes "void share(object o) { if (random(2)) v = o->query(); }\n"
      ++ codes "void put(int x) { v[0] = x; v[1]++; }\n"
      ++ codes "int get() { return v[0] * 1000 + v[1]; }\n"
      ++ codes "\n"
      ++ codes "file /secure/master.c 429\n"
      ++ codes "object *b;\n"
      ++ codes "object connect() { return this_object(); }\n"
      ++ codes "int logon() {\n"
      ++ codes "  int i;\n"
      ++ codes "  b = allocate(8);\n"
      ++ codes "  for (i = 0; i < 8; i++) b[i] = clone_object(\"/obj/box\");\n"
      ++ codes "  for (i = 0; i < 8; i++) b[i]->share(b[(i + 1) % 8]);\n"
      ++ codes "  enable_commands(); add_action(\"put\", \"put\"); add_action(\"get\", \"get\");\n"
      ++ codes "  return 1;\n"
      ++ codes "}\n"
      ++ codes "int put(string s) { b[random(8)]->put(random(1000)); return 1; }\n"
      ++ codes "int get(string s) { write(b[random(8)]->get() + \"\\n\"); return 1; }\n"
      ++ codes "\n"
      ++ codes "start\n"
      ++ codes "connect 1\n"
      ++ codes "swap /obj/box#4\n"
      ++ codes "end\n")
  pub ten_events : events_from 10 7 0
      ≡ Swap (codes "/obj/box#6")
      ∷ Line 1 (codes "put")
      ∷ Tick 2
      ∷ Swap (codes "/obj/box#3")
      ∷ Tick 6
      ∷ Line 1 (codes "get")
      ∷ Tick 11
      ∷ Tick 12
      ∷ Line 1 (codes "get")
      ∷ Line 1 (codes "get")
      ∷ []
