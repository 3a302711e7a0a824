-- Rows on environments and destruction: files, events and the transcript that a run of them has.
use Rattle.std.specs.Prelude.{pos, [], ◌∷◌, ◌++◌, Some, None, codes}
use Rattle.lp_tree.specs.Trees as tr
use Rattle.lp_tree.specs.Trees.{trees, pairs}
use Rattle.lp_tree.specs.Statements as sm
use Rattle.lp_tree.specs.Units as un
use Rattle.lp_tree.specs.declared.keyword.Base.TheVariants as bw
use Rattle.lp_tree.specs.declared.operator.BinOp.TheVariants as bo
use Rattle.lp_tree.specs.declared.operator.AssignOp.TheVariants as ao
use Rattle.lp_tree.specs.declared.expr.Edge.TheVariants as ed
use Rattle.lp_events.specs.declared.event.Event.TheVariants as ev
use Rattle.lp_meaning_rows.specs.Rows.{Source, Row, stmts, sound, row, Gives}

-- Each living thing that comes in: the room for it, then, for each other, its own `init` and that of the other.
abbrev pub inits_source_1 : Source
inits_source_1 = sound (codes "/log.c") (
    codes "string s = \"\";\n"
    ++ codes "void add(string t) { s += t + object_name(this_player())[1..1] + \" \"; }\n"
    ++ codes "string get() { return s; }\n") (
    (un.Var 1 [] bw.String ((record { line = 1; stars = 0; name = (codes "s"); value = (Some (tr.Text 1 (codes ""))) }) ∷ []))
    ∷ (un.Fun 2 [] (Some (record { base = bw.Void; stars = 0 })) (codes "add") ((record { line = 2; type_name = (Some (record { base = bw.String; stars = 0 })); name = (codes "t") }) ∷ []) (record { line = 2; stmts = (stmts ((sm.Run 2 (tr.Assign 2 ao.Add (tr.Name 2 (codes "s")) (tr.Binary 2 bo.Add (tr.Binary 2 bo.Add (tr.Name 2 (codes "t")) (tr.Range 2 (tr.Call 2 (codes "object_name") (trees ((tr.Call 2 (codes "this_player") tr.NoTree) ∷ []))) (tr.At ed.Front (tr.Int 2 (pos 1))) (tr.At ed.Front (tr.Int 2 (pos 1))))) (tr.Text 2 (codes " "))))) ∷ [])) }))
    ∷ (un.Fun 3 [] (Some (record { base = bw.String; stars = 0 })) (codes "get") [] (record { line = 3; stmts = (stmts ((sm.Return 3 (Some (tr.Name 3 (codes "s")))) ∷ [])) }))
    ∷ [])

abbrev pub inits_source_2 : Source
inits_source_2 = sound (codes "/room.c") (codes "void init() { \"/log\"->add(\"r\"); }\n") (
    (un.Fun 1 [] (Some (record { base = bw.Void; stars = 0 })) (codes "init") [] (record { line = 1; stmts = (stmts ((sm.Run 1 (tr.CallOther 1 (tr.Text 1 (codes "/log")) (codes "add") (trees ((tr.Text 1 (codes "r")) ∷ [])))) ∷ [])) }))
    ∷ [])

abbrev pub inits_source_3 : Source
inits_source_3 = sound (codes "/a.c") (
    codes "void create() { enable_commands(); move_object(this_object(), \"/room\"); }\n"
    ++ codes "void init() { \"/log\"->add(\"a\"); }\n") (
    (un.Fun 1 [] (Some (record { base = bw.Void; stars = 0 })) (codes "create") [] (record {
      line = 1;
      stmts = (stmts (
          (sm.Run 1 (tr.Call 1 (codes "enable_commands") tr.NoTree))
          ∷ (sm.Run 1 (tr.Call 1 (codes "move_object") (trees ((tr.Call 1 (codes "this_object") tr.NoTree) ∷ (tr.Text 1 (codes "/room")) ∷ []))))
          ∷ []));
    }))
    ∷ (un.Fun 2 [] (Some (record { base = bw.Void; stars = 0 })) (codes "init") [] (record { line = 2; stmts = (stmts ((sm.Run 2 (tr.CallOther 2 (tr.Text 2 (codes "/log")) (codes "add") (trees ((tr.Text 2 (codes "a")) ∷ [])))) ∷ [])) }))
    ∷ [])

abbrev pub inits_source_4 : Source
inits_source_4 = sound (codes "/b.c") (
    codes "void create() { enable_commands(); move_object(this_object(), \"/room\"); }\n"
    ++ codes "void init() { \"/log\"->add(\"b\"); }\n") (
    (un.Fun 1 [] (Some (record { base = bw.Void; stars = 0 })) (codes "create") [] (record {
      line = 1;
      stmts = (stmts (
          (sm.Run 1 (tr.Call 1 (codes "enable_commands") tr.NoTree))
          ∷ (sm.Run 1 (tr.Call 1 (codes "move_object") (trees ((tr.Call 1 (codes "this_object") tr.NoTree) ∷ (tr.Text 1 (codes "/room")) ∷ []))))
          ∷ []));
    }))
    ∷ (un.Fun 2 [] (Some (record { base = bw.Void; stars = 0 })) (codes "init") [] (record { line = 2; stmts = (stmts ((sm.Run 2 (tr.CallOther 2 (tr.Text 2 (codes "/log")) (codes "add") (trees ((tr.Text 2 (codes "b")) ∷ [])))) ∷ [])) }))
    ∷ [])

abbrev pub inits_source_5 : Source
inits_source_5 = sound (codes "/secure/master.c") (
    codes "object connect() { return this_object(); }\n"
    ++ codes "int logon() { load_object(\"/a\"); load_object(\"/b\"); enable_commands(); move_object(this_object(), \"/room\"); tell_object(this_object(), \"/log\"->get()); return 1; }\n"
    ++ codes "void init() { \"/log\"->add(\"s\"); }\n") (
    (un.Fun 1 [] (Some (record { base = bw.Object; stars = 0 })) (codes "connect") [] (record { line = 1; stmts = (stmts ((sm.Return 1 (Some (tr.Call 1 (codes "this_object") tr.NoTree))) ∷ [])) }))
    ∷ (un.Fun 2 [] (Some (record { base = bw.Int; stars = 0 })) (codes "logon") [] (record {
      line = 2;
      stmts = (stmts (
          (sm.Run 2 (tr.Call 2 (codes "load_object") (trees ((tr.Text 2 (codes "/a")) ∷ []))))
          ∷ (sm.Run 2 (tr.Call 2 (codes "load_object") (trees ((tr.Text 2 (codes "/b")) ∷ []))))
          ∷ (sm.Run 2 (tr.Call 2 (codes "enable_commands") tr.NoTree))
          ∷ (sm.Run 2 (tr.Call 2 (codes "move_object") (trees ((tr.Call 2 (codes "this_object") tr.NoTree) ∷ (tr.Text 2 (codes "/room")) ∷ []))))
          ∷ (sm.Run 2 (tr.Call 2 (codes "tell_object") (trees ((tr.Call 2 (codes "this_object") tr.NoTree) ∷ (tr.CallOther 2 (tr.Text 2 (codes "/log")) (codes "get") tr.NoTree) ∷ []))))
          ∷ (sm.Return 2 (Some (tr.Int 2 (pos 1))))
          ∷ []));
    }))
    ∷ (un.Fun 3 [] (Some (record { base = bw.Void; stars = 0 })) (codes "init") [] (record { line = 3; stmts = (stmts ((sm.Run 3 (tr.CallOther 3 (tr.Text 3 (codes "/log")) (codes "add") (trees ((tr.Text 3 (codes "s")) ∷ [])))) ∷ [])) }))
    ∷ [])

abbrev pub inits : Row
inits = row (inits_source_1 ∷ inits_source_2 ∷ inits_source_3 ∷ inits_source_4 ∷ inits_source_5 ∷ []) ([]) ([]) 0 ((ev.Connect 1) ∷ [])

-- Nothing is moved into itself.
abbrev pub itself_source_1 : Source
itself_source_1 = sound (codes "/room.c") (codes "void init() { write(\"r\"); }\n") (
    (un.Fun 1 [] (Some (record { base = bw.Void; stars = 0 })) (codes "init") [] (record { line = 1; stmts = (stmts ((sm.Run 1 (tr.Call 1 (codes "write") (trees ((tr.Text 1 (codes "r")) ∷ [])))) ∷ [])) }))
    ∷ [])

abbrev pub itself_source_2 : Source
itself_source_2 = sound (codes "/secure/master.c") (
    codes "object connect() { return this_object(); }\n"
    ++ codes "int logon() { write(catch(move_object(load_object(\"/room\"), \"/room\"))); return 1; }\n") (
    (un.Fun 1 [] (Some (record { base = bw.Object; stars = 0 })) (codes "connect") [] (record { line = 1; stmts = (stmts ((sm.Return 1 (Some (tr.Call 1 (codes "this_object") tr.NoTree))) ∷ [])) }))
    ∷ (un.Fun 2 [] (Some (record { base = bw.Int; stars = 0 })) (codes "logon") [] (record {
      line = 2;
      stmts = (stmts (
          (sm.Run 2 (tr.Call 2 (codes "write") (trees ((tr.Catch 2 (tr.Call 2 (codes "move_object") (trees ((tr.Call 2 (codes "load_object") (trees ((tr.Text 2 (codes "/room")) ∷ []))) ∷ (tr.Text 2 (codes "/room")) ∷ [])))) ∷ []))))
          ∷ (sm.Return 2 (Some (tr.Int 2 (pos 1))))
          ∷ []));
    }))
    ∷ [])

abbrev pub itself : Row
itself = row (itself_source_1 ∷ itself_source_2 ∷ []) ([]) ([]) 0 ((ev.Connect 1) ∷ [])

-- An action whose giver is out of reach is dropped.
abbrev pub giver_leaves_source_1 : Source
giver_leaves_source_1 = sound (codes "/room.c") (codes "void init() { add_action(\"f\", \"f\"); move_object(this_player(), \"/hall\"); } int f(string s) { return 1; }\n") (
    (un.Fun 1 [] (Some (record { base = bw.Void; stars = 0 })) (codes "init") [] (record {
      line = 1;
      stmts = (stmts (
          (sm.Run 1 (tr.Call 1 (codes "add_action") (trees ((tr.Text 1 (codes "f")) ∷ (tr.Text 1 (codes "f")) ∷ []))))
          ∷ (sm.Run 1 (tr.Call 1 (codes "move_object") (trees ((tr.Call 1 (codes "this_player") tr.NoTree) ∷ (tr.Text 1 (codes "/hall")) ∷ []))))
          ∷ []));
    }))
    ∷ (un.Fun 1 [] (Some (record { base = bw.Int; stars = 0 })) (codes "f") ((record { line = 1; type_name = (Some (record { base = bw.String; stars = 0 })); name = (codes "s") }) ∷ []) (record { line = 1; stmts = (stmts ((sm.Return 1 (Some (tr.Int 1 (pos 1)))) ∷ [])) }))
    ∷ [])

abbrev pub giver_leaves_source_2 : Source
giver_leaves_source_2 = sound (codes "/hall.c") (codes "int x;\n") (
    (un.Var 1 [] bw.Int ((record { line = 1; stars = 0; name = (codes "x"); value = None }) ∷ []))
    ∷ [])

abbrev pub giver_leaves_source_3 : Source
giver_leaves_source_3 = sound (codes "/secure/master.c") (
    codes "object connect() { return this_object(); }\n"
    ++ codes "int logon() { enable_commands(); move_object(this_object(), \"/room\"); return 1; }\n") (
    (un.Fun 1 [] (Some (record { base = bw.Object; stars = 0 })) (codes "connect") [] (record { line = 1; stmts = (stmts ((sm.Return 1 (Some (tr.Call 1 (codes "this_object") tr.NoTree))) ∷ [])) }))
    ∷ (un.Fun 2 [] (Some (record { base = bw.Int; stars = 0 })) (codes "logon") [] (record {
      line = 2;
      stmts = (stmts (
          (sm.Run 2 (tr.Call 2 (codes "enable_commands") tr.NoTree))
          ∷ (sm.Run 2 (tr.Call 2 (codes "move_object") (trees ((tr.Call 2 (codes "this_object") tr.NoTree) ∷ (tr.Text 2 (codes "/room")) ∷ []))))
          ∷ (sm.Return 2 (Some (tr.Int 2 (pos 1))))
          ∷ []));
    }))
    ∷ [])

abbrev pub giver_leaves : Row
giver_leaves = row (giver_leaves_source_1 ∷ giver_leaves_source_2 ∷ giver_leaves_source_3 ∷ []) ([]) ([]) 0 ((ev.Connect 1) ∷ (ev.Line 1 (codes "f")) ∷ [])

-- A pair whose key is destructed is not there, and a destructed object is 0.
abbrev pub dead_key_source_1 : Source
dead_key_source_1 = sound (codes "/secure/master.c") (
    codes "object connect() { return this_object(); }\n"
    ++ codes "int logon() { object o; mapping m; o = clone_object(\"/t\"); m = ([o: 1, 2: 3]); destruct(o); write(sizeof(m) + \",\" + m[0] + \",\" + (o == 0)); return 1; }\n") (
    (un.Fun 1 [] (Some (record { base = bw.Object; stars = 0 })) (codes "connect") [] (record { line = 1; stmts = (stmts ((sm.Return 1 (Some (tr.Call 1 (codes "this_object") tr.NoTree))) ∷ [])) }))
    ∷ (un.Fun 2 [] (Some (record { base = bw.Int; stars = 0 })) (codes "logon") [] (record {
      line = 2;
      stmts = (stmts (
          (sm.Declares 2 (record { line = 2; base = bw.Object; ones = ((record { line = 2; stars = 0; name = (codes "o"); value = None }) ∷ []) }))
          ∷ (sm.Declares 2 (record { line = 2; base = bw.Mapping; ones = ((record { line = 2; stars = 0; name = (codes "m"); value = None }) ∷ []) }))
          ∷ (sm.Run 2 (tr.Assign 2 ao.Set (tr.Name 2 (codes "o")) (tr.Call 2 (codes "clone_object") (trees ((tr.Text 2 (codes "/t")) ∷ [])))))
          ∷ (sm.Run 2 (tr.Assign 2 ao.Set (tr.Name 2 (codes "m")) (tr.Mapping 2 (pairs (((tr.Name 2 (codes "o")), (tr.Int 2 (pos 1))) ∷ ((tr.Int 2 (pos 2)), (tr.Int 2 (pos 3))) ∷ [])))))
          ∷ (sm.Run 2 (tr.Call 2 (codes "destruct") (trees ((tr.Name 2 (codes "o")) ∷ []))))
          ∷ (sm.Run 2 (tr.Call 2 (codes "write") (trees ((tr.Binary 2 bo.Add (tr.Binary 2 bo.Add (tr.Binary 2 bo.Add (tr.Binary 2 bo.Add (tr.Call 2 (codes "sizeof") (trees ((tr.Name 2 (codes "m")) ∷ []))) (tr.Text 2 (codes ","))) (tr.Index 2 (tr.Name 2 (codes "m")) ed.Front (tr.Int 2 (pos 0)))) (tr.Text 2 (codes ","))) (tr.Paren 2 (tr.Binary 2 bo.Eq (tr.Name 2 (codes "o")) (tr.Int 2 (pos 0))))) ∷ []))))
          ∷ (sm.Return 2 (Some (tr.Int 2 (pos 1))))
          ∷ []));
    }))
    ∷ [])

abbrev pub dead_key_source_2 : Source
dead_key_source_2 = sound (codes "/t.c") (codes "int x;\n") (
    (un.Var 1 [] bw.Int ((record { line = 1; stars = 0; name = (codes "x"); value = None }) ∷ []))
    ∷ [])

abbrev pub dead_key : Row
dead_key = row (dead_key_source_1 ∷ dead_key_source_2 ∷ []) ([]) ([]) 0 ((ev.Connect 1) ∷ [])

-- `say` leaves out who speaks, `tell_room` nobody; an object without a connection gets `catch_tell`.
abbrev pub messages_source_1 : Source
messages_source_1 = sound (codes "/room.c") (codes "int x;\n") (
    (un.Var 1 [] bw.Int ((record { line = 1; stars = 0; name = (codes "x"); value = None }) ∷ []))
    ∷ [])

abbrev pub messages_source_2 : Source
messages_source_2 = sound (codes "/a.c") (
    codes "void create() { enable_commands(); move_object(this_object(), \"/room\"); }\n"
    ++ codes "void catch_tell(string t) { tell_object(load_object(\"/secure/master\"), \"a:\" + t + \" \"); }\n") (
    (un.Fun 1 [] (Some (record { base = bw.Void; stars = 0 })) (codes "create") [] (record {
      line = 1;
      stmts = (stmts (
          (sm.Run 1 (tr.Call 1 (codes "enable_commands") tr.NoTree))
          ∷ (sm.Run 1 (tr.Call 1 (codes "move_object") (trees ((tr.Call 1 (codes "this_object") tr.NoTree) ∷ (tr.Text 1 (codes "/room")) ∷ []))))
          ∷ []));
    }))
    ∷ (un.Fun 2 [] (Some (record { base = bw.Void; stars = 0 })) (codes "catch_tell") ((record { line = 2; type_name = (Some (record { base = bw.String; stars = 0 })); name = (codes "t") }) ∷ []) (record { line = 2; stmts = (stmts ((sm.Run 2 (tr.Call 2 (codes "tell_object") (trees ((tr.Call 2 (codes "load_object") (trees ((tr.Text 2 (codes "/secure/master")) ∷ []))) ∷ (tr.Binary 2 bo.Add (tr.Binary 2 bo.Add (tr.Text 2 (codes "a:")) (tr.Name 2 (codes "t"))) (tr.Text 2 (codes " "))) ∷ [])))) ∷ [])) }))
    ∷ [])

abbrev pub messages_source_3 : Source
messages_source_3 = sound (codes "/secure/master.c") (
    codes "object connect() { return this_object(); }\n"
    ++ codes "int logon() { load_object(\"/a\"); enable_commands(); move_object(this_object(), \"/room\"); say(\"one\"); tell_room(load_object(\"/room\"), \"two \"); write(sizeof(all_inventory(load_object(\"/room\")))); return 1; }\n") (
    (un.Fun 1 [] (Some (record { base = bw.Object; stars = 0 })) (codes "connect") [] (record { line = 1; stmts = (stmts ((sm.Return 1 (Some (tr.Call 1 (codes "this_object") tr.NoTree))) ∷ [])) }))
    ∷ (un.Fun 2 [] (Some (record { base = bw.Int; stars = 0 })) (codes "logon") [] (record {
      line = 2;
      stmts = (stmts (
          (sm.Run 2 (tr.Call 2 (codes "load_object") (trees ((tr.Text 2 (codes "/a")) ∷ []))))
          ∷ (sm.Run 2 (tr.Call 2 (codes "enable_commands") tr.NoTree))
          ∷ (sm.Run 2 (tr.Call 2 (codes "move_object") (trees ((tr.Call 2 (codes "this_object") tr.NoTree) ∷ (tr.Text 2 (codes "/room")) ∷ []))))
          ∷ (sm.Run 2 (tr.Call 2 (codes "say") (trees ((tr.Text 2 (codes "one")) ∷ []))))
          ∷ (sm.Run 2 (tr.Call 2 (codes "tell_room") (trees ((tr.Call 2 (codes "load_object") (trees ((tr.Text 2 (codes "/room")) ∷ []))) ∷ (tr.Text 2 (codes "two ")) ∷ []))))
          ∷ (sm.Run 2 (tr.Call 2 (codes "write") (trees ((tr.Call 2 (codes "sizeof") (trees ((tr.Call 2 (codes "all_inventory") (trees ((tr.Call 2 (codes "load_object") (trees ((tr.Text 2 (codes "/room")) ∷ []))) ∷ []))) ∷ []))) ∷ []))))
          ∷ (sm.Return 2 (Some (tr.Int 2 (pos 1))))
          ∷ []));
    }))
    ∷ [])

abbrev pub messages : Row
messages = row (messages_source_1 ∷ messages_source_2 ∷ messages_source_3 ∷ []) ([]) ([]) 0 ((ev.Connect 1) ∷ [])

-- Each of them gives its transcript.
pub record PlacesRows : Type 0 where
  pub inits_gives : Gives inits (codes "to 1 27\nra rb ba ab rs sb bs sa as \nend\n")
  pub itself_gives : Gives itself (codes "to 1 22\n*Would contain itself\n\nend\n")
  pub giver_leaves_gives : Gives giver_leaves (codes "to 1 6\nWhat?\n\nend\n")
  pub dead_key_gives : Gives dead_key (codes "to 1 5\n1,0,1\nend\n")
  pub messages_gives : Gives messages (codes "to 1 18\na:one two a:two  2\nend\n")
