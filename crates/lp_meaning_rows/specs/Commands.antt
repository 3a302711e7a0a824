-- Rows on commands, lines and errors: files, events and the transcript that a run of them has.
use Rattle.std.specs.Prelude.{pos, [], ◌∷◌, ◌++◌, Some, None, codes}
use Rattle.lp_tree.specs.Trees as tr
use Rattle.lp_tree.specs.Trees.{trees}
use Rattle.lp_tree.specs.Statements as sm
use Rattle.lp_tree.specs.Units as un
use Rattle.lp_tree.specs.declared.keyword.Base.TheVariants as bw
use Rattle.lp_tree.specs.declared.operator.BinOp.TheVariants as bo
use Rattle.lp_tree.specs.declared.operator.AssignOp.TheVariants as ao
use Rattle.lp_events.specs.declared.event.Event.TheVariants as ev
use Rattle.lp_meaning_rows.specs.Rows.{Source, Row, stmts, sound, row, Gives}

-- The latest action is tried first, and an answer 0 goes on to the next.
abbrev pub latest_first_source : Source
latest_first_source = sound (codes "/secure/master.c") (
    codes "object connect() { return this_object(); }\n"
    ++ codes "int logon() { enable_commands();\n"
    ++ codes "  add_action(\"one\", \"say\"); add_action(\"two\", \"say\"); return 1; }\n"
    ++ codes "int one(string s) { write(\"1\"); return 1; }\n"
    ++ codes "int two(string s) { write(\"2\"); return 0; }\n") (
    (un.Fun 1 [] (Some (record { base = bw.Object; stars = 0 })) (codes "connect") [] (record { line = 1; stmts = (stmts ((sm.Return 1 (Some (tr.Call 1 (codes "this_object") tr.NoTree))) ∷ [])) }))
    ∷ (un.Fun 2 [] (Some (record { base = bw.Int; stars = 0 })) (codes "logon") [] (record {
      line = 2;
      stmts = (stmts (
          (sm.Run 2 (tr.Call 2 (codes "enable_commands") tr.NoTree))
          ∷ (sm.Run 3 (tr.Call 3 (codes "add_action") (trees ((tr.Text 3 (codes "one")) ∷ (tr.Text 3 (codes "say")) ∷ []))))
          ∷ (sm.Run 3 (tr.Call 3 (codes "add_action") (trees ((tr.Text 3 (codes "two")) ∷ (tr.Text 3 (codes "say")) ∷ []))))
          ∷ (sm.Return 3 (Some (tr.Int 3 (pos 1))))
          ∷ []));
    }))
    ∷ (un.Fun 4 [] (Some (record { base = bw.Int; stars = 0 })) (codes "one") ((record { line = 4; type_name = (Some (record { base = bw.String; stars = 0 })); name = (codes "s") }) ∷ []) (record {
      line = 4;
      stmts = (stmts (
          (sm.Run 4 (tr.Call 4 (codes "write") (trees ((tr.Text 4 (codes "1")) ∷ []))))
          ∷ (sm.Return 4 (Some (tr.Int 4 (pos 1))))
          ∷ []));
    }))
    ∷ (un.Fun 5 [] (Some (record { base = bw.Int; stars = 0 })) (codes "two") ((record { line = 5; type_name = (Some (record { base = bw.String; stars = 0 })); name = (codes "s") }) ∷ []) (record {
      line = 5;
      stmts = (stmts (
          (sm.Run 5 (tr.Call 5 (codes "write") (trees ((tr.Text 5 (codes "2")) ∷ []))))
          ∷ (sm.Return 5 (Some (tr.Int 5 (pos 0))))
          ∷ []));
    }))
    ∷ [])

abbrev pub latest_first : Row
latest_first = row (latest_first_source ∷ []) ([]) ([]) 0 ((ev.Connect 1) ∷ (ev.Line 1 (codes "say hi")) ∷ [])

-- With the flag a verb is done by a front of it, and `query_verb` is what was typed.
abbrev pub prefix_source : Source
prefix_source = sound (codes "/secure/master.c") (
    codes "object connect() { return this_object(); }\n"
    ++ codes "int logon() { enable_commands(); add_action(\"one\", \"s\", 1); return 1; }\n"
    ++ codes "int one(string s) { write(query_verb()); return 1; }\n") (
    (un.Fun 1 [] (Some (record { base = bw.Object; stars = 0 })) (codes "connect") [] (record { line = 1; stmts = (stmts ((sm.Return 1 (Some (tr.Call 1 (codes "this_object") tr.NoTree))) ∷ [])) }))
    ∷ (un.Fun 2 [] (Some (record { base = bw.Int; stars = 0 })) (codes "logon") [] (record {
      line = 2;
      stmts = (stmts (
          (sm.Run 2 (tr.Call 2 (codes "enable_commands") tr.NoTree))
          ∷ (sm.Run 2 (tr.Call 2 (codes "add_action") (trees ((tr.Text 2 (codes "one")) ∷ (tr.Text 2 (codes "s")) ∷ (tr.Int 2 (pos 1)) ∷ []))))
          ∷ (sm.Return 2 (Some (tr.Int 2 (pos 1))))
          ∷ []));
    }))
    ∷ (un.Fun 3 [] (Some (record { base = bw.Int; stars = 0 })) (codes "one") ((record { line = 3; type_name = (Some (record { base = bw.String; stars = 0 })); name = (codes "s") }) ∷ []) (record {
      line = 3;
      stmts = (stmts (
          (sm.Run 3 (tr.Call 3 (codes "write") (trees ((tr.Call 3 (codes "query_verb") tr.NoTree) ∷ []))))
          ∷ (sm.Return 3 (Some (tr.Int 3 (pos 1))))
          ∷ []));
    }))
    ∷ [])

abbrev pub prefix : Row
prefix = row (prefix_source ∷ []) ([]) ([]) 0 ((ev.Connect 1) ∷ (ev.Line 1 (codes "sa")) ∷ [])

-- After a `command` of another object `this_player()` is as before.
abbrev pub player_back_source_1 : Source
player_back_source_1 = sound (codes "/n.c") (
    codes "void live() { enable_commands(); add_action(\"x\", \"x\"); }\n"
    ++ codes "int x(string s) { return 1; }\n"
    ++ codes "void act() { command(\"x\"); write(object_name(this_player())); }\n") (
    (un.Fun 1 [] (Some (record { base = bw.Void; stars = 0 })) (codes "live") [] (record {
      line = 1;
      stmts = (stmts (
          (sm.Run 1 (tr.Call 1 (codes "enable_commands") tr.NoTree))
          ∷ (sm.Run 1 (tr.Call 1 (codes "add_action") (trees ((tr.Text 1 (codes "x")) ∷ (tr.Text 1 (codes "x")) ∷ []))))
          ∷ []));
    }))
    ∷ (un.Fun 2 [] (Some (record { base = bw.Int; stars = 0 })) (codes "x") ((record { line = 2; type_name = (Some (record { base = bw.String; stars = 0 })); name = (codes "s") }) ∷ []) (record { line = 2; stmts = (stmts ((sm.Return 2 (Some (tr.Int 2 (pos 1)))) ∷ [])) }))
    ∷ (un.Fun 3 [] (Some (record { base = bw.Void; stars = 0 })) (codes "act") [] (record {
      line = 3;
      stmts = (stmts (
          (sm.Run 3 (tr.Call 3 (codes "command") (trees ((tr.Text 3 (codes "x")) ∷ []))))
          ∷ (sm.Run 3 (tr.Call 3 (codes "write") (trees ((tr.Call 3 (codes "object_name") (trees ((tr.Call 3 (codes "this_player") tr.NoTree) ∷ []))) ∷ []))))
          ∷ []));
    }))
    ∷ [])

abbrev pub player_back_source_2 : Source
player_back_source_2 = sound (codes "/secure/master.c") (
    codes "object connect() { return this_object(); }\n"
    ++ codes "int logon() { \"/n\"->live(); enable_commands(); add_action(\"go\", \"go\"); return 1; }\n"
    ++ codes "int go(string s) { \"/n\"->act(); return 1; }\n") (
    (un.Fun 1 [] (Some (record { base = bw.Object; stars = 0 })) (codes "connect") [] (record { line = 1; stmts = (stmts ((sm.Return 1 (Some (tr.Call 1 (codes "this_object") tr.NoTree))) ∷ [])) }))
    ∷ (un.Fun 2 [] (Some (record { base = bw.Int; stars = 0 })) (codes "logon") [] (record {
      line = 2;
      stmts = (stmts (
          (sm.Run 2 (tr.CallOther 2 (tr.Text 2 (codes "/n")) (codes "live") tr.NoTree))
          ∷ (sm.Run 2 (tr.Call 2 (codes "enable_commands") tr.NoTree))
          ∷ (sm.Run 2 (tr.Call 2 (codes "add_action") (trees ((tr.Text 2 (codes "go")) ∷ (tr.Text 2 (codes "go")) ∷ []))))
          ∷ (sm.Return 2 (Some (tr.Int 2 (pos 1))))
          ∷ []));
    }))
    ∷ (un.Fun 3 [] (Some (record { base = bw.Int; stars = 0 })) (codes "go") ((record { line = 3; type_name = (Some (record { base = bw.String; stars = 0 })); name = (codes "s") }) ∷ []) (record {
      line = 3;
      stmts = (stmts (
          (sm.Run 3 (tr.CallOther 3 (tr.Text 3 (codes "/n")) (codes "act") tr.NoTree))
          ∷ (sm.Return 3 (Some (tr.Int 3 (pos 1))))
          ∷ []));
    }))
    ∷ [])

abbrev pub player_back : Row
player_back = row (player_back_source_1 ∷ player_back_source_2 ∷ []) ([]) ([]) 0 ((ev.Connect 1) ∷ (ev.Line 1 (codes "go")) ∷ [])

-- After an uncaught error the effects so far stay, and the player is told.
abbrev pub effects_stay_source : Source
effects_stay_source = sound (codes "/secure/master.c") (
    codes "int n;\n"
    ++ codes "object connect() { return this_object(); }\n"
    ++ codes "int logon() { enable_commands(); add_action(\"bad\", \"bad\"); add_action(\"show\", \"show\"); return 1; }\n"
    ++ codes "int bad(string s) { n = 7; write(\"x\"); return 1 / 0; }\n"
    ++ codes "int show(string s) { write(n); return 1; }\n") (
    (un.Var 1 [] bw.Int ((record { line = 1; stars = 0; name = (codes "n"); value = None }) ∷ []))
    ∷ (un.Fun 2 [] (Some (record { base = bw.Object; stars = 0 })) (codes "connect") [] (record { line = 2; stmts = (stmts ((sm.Return 2 (Some (tr.Call 2 (codes "this_object") tr.NoTree))) ∷ [])) }))
    ∷ (un.Fun 3 [] (Some (record { base = bw.Int; stars = 0 })) (codes "logon") [] (record {
      line = 3;
      stmts = (stmts (
          (sm.Run 3 (tr.Call 3 (codes "enable_commands") tr.NoTree))
          ∷ (sm.Run 3 (tr.Call 3 (codes "add_action") (trees ((tr.Text 3 (codes "bad")) ∷ (tr.Text 3 (codes "bad")) ∷ []))))
          ∷ (sm.Run 3 (tr.Call 3 (codes "add_action") (trees ((tr.Text 3 (codes "show")) ∷ (tr.Text 3 (codes "show")) ∷ []))))
          ∷ (sm.Return 3 (Some (tr.Int 3 (pos 1))))
          ∷ []));
    }))
    ∷ (un.Fun 4 [] (Some (record { base = bw.Int; stars = 0 })) (codes "bad") ((record { line = 4; type_name = (Some (record { base = bw.String; stars = 0 })); name = (codes "s") }) ∷ []) (record {
      line = 4;
      stmts = (stmts (
          (sm.Run 4 (tr.Assign 4 ao.Set (tr.Name 4 (codes "n")) (tr.Int 4 (pos 7))))
          ∷ (sm.Run 4 (tr.Call 4 (codes "write") (trees ((tr.Text 4 (codes "x")) ∷ []))))
          ∷ (sm.Return 4 (Some (tr.Binary 4 bo.Div (tr.Int 4 (pos 1)) (tr.Int 4 (pos 0)))))
          ∷ []));
    }))
    ∷ (un.Fun 5 [] (Some (record { base = bw.Int; stars = 0 })) (codes "show") ((record { line = 5; type_name = (Some (record { base = bw.String; stars = 0 })); name = (codes "s") }) ∷ []) (record {
      line = 5;
      stmts = (stmts (
          (sm.Run 5 (tr.Call 5 (codes "write") (trees ((tr.Name 5 (codes "n")) ∷ []))))
          ∷ (sm.Return 5 (Some (tr.Int 5 (pos 1))))
          ∷ []));
    }))
    ∷ [])

abbrev pub effects_stay : Row
effects_stay = row (effects_stay_source ∷ []) ([]) ([]) 0 ((ev.Connect 1) ∷ (ev.Line 1 (codes "bad")) ∷ (ev.Line 1 (codes "show")) ∷ [])

-- A function that waits for the next line, with the input hidden.
abbrev pub next_line_source : Source
next_line_source = sound (codes "/secure/master.c") (
    codes "object connect() { return this_object(); }\n"
    ++ codes "int logon() { write(\"Name: \"); input_to(\"got\", 1); return 1; }\n"
    ++ codes "void got(string s) { write(\"Hi \" + s + \"\\n\"); }\n") (
    (un.Fun 1 [] (Some (record { base = bw.Object; stars = 0 })) (codes "connect") [] (record { line = 1; stmts = (stmts ((sm.Return 1 (Some (tr.Call 1 (codes "this_object") tr.NoTree))) ∷ [])) }))
    ∷ (un.Fun 2 [] (Some (record { base = bw.Int; stars = 0 })) (codes "logon") [] (record {
      line = 2;
      stmts = (stmts (
          (sm.Run 2 (tr.Call 2 (codes "write") (trees ((tr.Text 2 (codes "Name: ")) ∷ []))))
          ∷ (sm.Run 2 (tr.Call 2 (codes "input_to") (trees ((tr.Text 2 (codes "got")) ∷ (tr.Int 2 (pos 1)) ∷ []))))
          ∷ (sm.Return 2 (Some (tr.Int 2 (pos 1))))
          ∷ []));
    }))
    ∷ (un.Fun 3 [] (Some (record { base = bw.Void; stars = 0 })) (codes "got") ((record { line = 3; type_name = (Some (record { base = bw.String; stars = 0 })); name = (codes "s") }) ∷ []) (record { line = 3; stmts = (stmts ((sm.Run 3 (tr.Call 3 (codes "write") (trees ((tr.Binary 3 bo.Add (tr.Binary 3 bo.Add (tr.Text 3 (codes "Hi ")) (tr.Name 3 (codes "s"))) (tr.Text 3 (codes "\n"))) ∷ [])))) ∷ [])) }))
    ∷ [])

abbrev pub next_line : Row
next_line = row (next_line_source ∷ []) ([]) ([]) 0 ((ev.Connect 1) ∷ (ev.Line 1 (codes "Bo")) ∷ [])

-- A small mudlib: a player with a name, a room, two monsters with hearts.
abbrev pub mudlib_source_1 : Source
mudlib_source_1 = sound (codes "/mob.c") (
    codes "void create() { set_heart_beat(1); }\n"
    ++ codes "void heart_beat() {\n"
    ++ codes "  if (environment()) tell_room(environment(), object_name() + \" growls.\\n\");\n"
    ++ codes "}\n") (
    (un.Fun 1 [] (Some (record { base = bw.Void; stars = 0 })) (codes "create") [] (record { line = 1; stmts = (stmts ((sm.Run 1 (tr.Call 1 (codes "set_heart_beat") (trees ((tr.Int 1 (pos 1)) ∷ [])))) ∷ [])) }))
    ∷ (un.Fun 2 [] (Some (record { base = bw.Void; stars = 0 })) (codes "heart_beat") [] (record { line = 2; stmts = (stmts ((sm.If 3 (tr.Call 3 (codes "environment") tr.NoTree) (sm.Run 3 (tr.Call 3 (codes "tell_room") (trees ((tr.Call 3 (codes "environment") tr.NoTree) ∷ (tr.Binary 3 bo.Add (tr.Call 3 (codes "object_name") tr.NoTree) (tr.Text 3 (codes " growls.\n"))) ∷ [])))) sm.NoElse) ∷ [])) }))
    ∷ [])

abbrev pub mudlib_source_2 : Source
mudlib_source_2 = sound (codes "/player.c") (
    codes "string name;\n"
    ++ codes "int logon() { write(\"Name: \"); input_to(\"named\"); return 1; }\n"
    ++ codes "void named(string s) {\n"
    ++ codes "  name = s; enable_commands();\n"
    ++ codes "  move_object(this_object(), \"/room\");\n"
    ++ codes "  write(\"Welcome, \" + name + \".\\n\");\n"
    ++ codes "}\n") (
    (un.Var 1 [] bw.String ((record { line = 1; stars = 0; name = (codes "name"); value = None }) ∷ []))
    ∷ (un.Fun 2 [] (Some (record { base = bw.Int; stars = 0 })) (codes "logon") [] (record {
      line = 2;
      stmts = (stmts (
          (sm.Run 2 (tr.Call 2 (codes "write") (trees ((tr.Text 2 (codes "Name: ")) ∷ []))))
          ∷ (sm.Run 2 (tr.Call 2 (codes "input_to") (trees ((tr.Text 2 (codes "named")) ∷ []))))
          ∷ (sm.Return 2 (Some (tr.Int 2 (pos 1))))
          ∷ []));
    }))
    ∷ (un.Fun 3 [] (Some (record { base = bw.Void; stars = 0 })) (codes "named") ((record { line = 3; type_name = (Some (record { base = bw.String; stars = 0 })); name = (codes "s") }) ∷ []) (record {
      line = 3;
      stmts = (stmts (
          (sm.Run 4 (tr.Assign 4 ao.Set (tr.Name 4 (codes "name")) (tr.Name 4 (codes "s"))))
          ∷ (sm.Run 4 (tr.Call 4 (codes "enable_commands") tr.NoTree))
          ∷ (sm.Run 5 (tr.Call 5 (codes "move_object") (trees ((tr.Call 5 (codes "this_object") tr.NoTree) ∷ (tr.Text 5 (codes "/room")) ∷ []))))
          ∷ (sm.Run 6 (tr.Call 6 (codes "write") (trees ((tr.Binary 6 bo.Add (tr.Binary 6 bo.Add (tr.Text 6 (codes "Welcome, ")) (tr.Name 6 (codes "name"))) (tr.Text 6 (codes ".\n"))) ∷ []))))
          ∷ []));
    }))
    ∷ [])

abbrev pub mudlib_source_3 : Source
mudlib_source_3 = sound (codes "/room.c") (
    codes "void create() {\n"
    ++ codes "  move_object(clone_object(\"/mob\"), this_object());\n"
    ++ codes "  move_object(clone_object(\"/mob\"), this_object());\n"
    ++ codes "}\n"
    ++ codes "void init() { add_action(\"look\", \"look\"); }\n"
    ++ codes "int look(string s) { write(\"A room.\\n\"); return 1; }\n") (
    (un.Fun 1 [] (Some (record { base = bw.Void; stars = 0 })) (codes "create") [] (record {
      line = 1;
      stmts = (stmts (
          (sm.Run 2 (tr.Call 2 (codes "move_object") (trees ((tr.Call 2 (codes "clone_object") (trees ((tr.Text 2 (codes "/mob")) ∷ []))) ∷ (tr.Call 2 (codes "this_object") tr.NoTree) ∷ []))))
          ∷ (sm.Run 3 (tr.Call 3 (codes "move_object") (trees ((tr.Call 3 (codes "clone_object") (trees ((tr.Text 3 (codes "/mob")) ∷ []))) ∷ (tr.Call 3 (codes "this_object") tr.NoTree) ∷ []))))
          ∷ []));
    }))
    ∷ (un.Fun 5 [] (Some (record { base = bw.Void; stars = 0 })) (codes "init") [] (record { line = 5; stmts = (stmts ((sm.Run 5 (tr.Call 5 (codes "add_action") (trees ((tr.Text 5 (codes "look")) ∷ (tr.Text 5 (codes "look")) ∷ [])))) ∷ [])) }))
    ∷ (un.Fun 6 [] (Some (record { base = bw.Int; stars = 0 })) (codes "look") ((record { line = 6; type_name = (Some (record { base = bw.String; stars = 0 })); name = (codes "s") }) ∷ []) (record {
      line = 6;
      stmts = (stmts (
          (sm.Run 6 (tr.Call 6 (codes "write") (trees ((tr.Text 6 (codes "A room.\n")) ∷ []))))
          ∷ (sm.Return 6 (Some (tr.Int 6 (pos 1))))
          ∷ []));
    }))
    ∷ [])

abbrev pub mudlib_source_4 : Source
mudlib_source_4 = sound (codes "/secure/master.c") (codes "object connect() { return clone_object(\"/player\"); }\n") (
    (un.Fun 1 [] (Some (record { base = bw.Object; stars = 0 })) (codes "connect") [] (record { line = 1; stmts = (stmts ((sm.Return 1 (Some (tr.Call 1 (codes "clone_object") (trees ((tr.Text 1 (codes "/player")) ∷ []))))) ∷ [])) }))
    ∷ [])

abbrev pub mudlib : Row
mudlib = row (mudlib_source_1 ∷ mudlib_source_2 ∷ mudlib_source_3 ∷ mudlib_source_4 ∷ []) ([]) ([]) 0 ((ev.Connect 1) ∷ (ev.Line 1 (codes "Bo")) ∷ (ev.Line 1 (codes "look")) ∷ (ev.Tick 2) ∷ (ev.Line 1 (codes "dance")) ∷ (ev.Gone 1) ∷ [])

-- Each of them gives its transcript.
pub record CommandsRows : Type 0 where
  pub latest_first_gives : Gives latest_first (codes "to 1 2\n21\nend\n")
  pub prefix_gives : Gives prefix (codes "to 1 2\nsa\nend\n")
  pub player_back_gives : Gives player_back (codes "to 1 14\n/secure/master\nend\n")
  pub effects_stay_gives : Gives effects_stay (codes "to 1 1\nx\nlog 70\nerror: Division by zero [bad of /secure/master, object /secure/master]\nto 1 64\nYour sensitive mind notices a wrongness in the fabric of space.\n\nto 1 1\n7\nend\n")
  pub next_line_gives : Gives next_line (codes "to 1 6\nName: \nhide 1\nshow 1\nto 1 6\nHi Bo\n\nend\n")
  pub mudlib_gives : Gives mudlib (codes "to 1 6\nName: \nto 1 13\nWelcome, Bo.\n\nto 1 8\nA room.\n\nto 1 30\n/mob#2 growls.\n/mob#3 growls.\n\nto 1 6\nWhat?\n\nend\n")
