-- Rows on ticks: files, events and the transcript that a run of them has.
use Rattle.std.specs.Prelude.{pos, [], ◌∷◌, ◌++◌, Some, None, codes}
use Rattle.lp_tree.specs.Trees as tr
use Rattle.lp_tree.specs.Trees.{trees}
use Rattle.lp_tree.specs.Statements as sm
use Rattle.lp_tree.specs.Units as un
use Rattle.lp_tree.specs.declared.keyword.Base.TheVariants as bw
use Rattle.lp_tree.specs.declared.operator.BinOp.TheVariants as bo
use Rattle.lp_tree.specs.declared.operator.AssignOp.TheVariants as ao
use Rattle.lp_events.specs.declared.event.Event.TheVariants as ev
use Rattle.lp_meaning_rows.specs.Rows.{Source, Row, stmts, sound, row, Gives}

-- A call-out that is made in a tick waits for the next.
abbrev pub call_outs_source : Source
call_outs_source = sound (codes "/secure/master.c") (
    codes "object connect() { return this_object(); }\n"
    ++ codes "int logon() { call_out(\"a\", 0); call_out(\"b\", 0); return 1; }\n"
    ++ codes "void a() { tell_object(this_object(), \"a\"); call_out(\"c\", 0); }\n"
    ++ codes "void b() { tell_object(this_object(), \"b\"); }\n"
    ++ codes "void c() { tell_object(this_object(), \"c\"); }\n") (
    (un.Fun 1 [] (Some (record { base = bw.Object; stars = 0 })) (codes "connect") [] (record { line = 1; stmts = (stmts ((sm.Return 1 (Some (tr.Call 1 (codes "this_object") tr.NoTree))) ∷ [])) }))
    ∷ (un.Fun 2 [] (Some (record { base = bw.Int; stars = 0 })) (codes "logon") [] (record {
      line = 2;
      stmts = (stmts (
          (sm.Run 2 (tr.Call 2 (codes "call_out") (trees ((tr.Text 2 (codes "a")) ∷ (tr.Int 2 (pos 0)) ∷ []))))
          ∷ (sm.Run 2 (tr.Call 2 (codes "call_out") (trees ((tr.Text 2 (codes "b")) ∷ (tr.Int 2 (pos 0)) ∷ []))))
          ∷ (sm.Return 2 (Some (tr.Int 2 (pos 1))))
          ∷ []));
    }))
    ∷ (un.Fun 3 [] (Some (record { base = bw.Void; stars = 0 })) (codes "a") [] (record {
      line = 3;
      stmts = (stmts (
          (sm.Run 3 (tr.Call 3 (codes "tell_object") (trees ((tr.Call 3 (codes "this_object") tr.NoTree) ∷ (tr.Text 3 (codes "a")) ∷ []))))
          ∷ (sm.Run 3 (tr.Call 3 (codes "call_out") (trees ((tr.Text 3 (codes "c")) ∷ (tr.Int 3 (pos 0)) ∷ []))))
          ∷ []));
    }))
    ∷ (un.Fun 4 [] (Some (record { base = bw.Void; stars = 0 })) (codes "b") [] (record { line = 4; stmts = (stmts ((sm.Run 4 (tr.Call 4 (codes "tell_object") (trees ((tr.Call 4 (codes "this_object") tr.NoTree) ∷ (tr.Text 4 (codes "b")) ∷ [])))) ∷ [])) }))
    ∷ (un.Fun 5 [] (Some (record { base = bw.Void; stars = 0 })) (codes "c") [] (record { line = 5; stmts = (stmts ((sm.Run 5 (tr.Call 5 (codes "tell_object") (trees ((tr.Call 5 (codes "this_object") tr.NoTree) ∷ (tr.Text 5 (codes "c")) ∷ [])))) ∷ [])) }))
    ∷ [])

abbrev pub call_outs : Row
call_outs = row (call_outs_source ∷ []) ([]) ([]) 0 ((ev.Connect 1) ∷ (ev.Tick 5) ∷ (ev.Tick 5) ∷ [])

-- An uncaught error switches a heart beat off.
abbrev pub heart_source_1 : Source
heart_source_1 = sound (codes "/h.c") (codes "void create() { set_heart_beat(1); } void heart_beat() { 1 / 0; }\n") (
    (un.Fun 1 [] (Some (record { base = bw.Void; stars = 0 })) (codes "create") [] (record { line = 1; stmts = (stmts ((sm.Run 1 (tr.Call 1 (codes "set_heart_beat") (trees ((tr.Int 1 (pos 1)) ∷ [])))) ∷ [])) }))
    ∷ (un.Fun 1 [] (Some (record { base = bw.Void; stars = 0 })) (codes "heart_beat") [] (record { line = 1; stmts = (stmts ((sm.Run 1 (tr.Binary 1 bo.Div (tr.Int 1 (pos 1)) (tr.Int 1 (pos 0)))) ∷ [])) }))
    ∷ [])

abbrev pub heart_source_2 : Source
heart_source_2 = sound (codes "/secure/master.c") (
    codes "object connect() { return this_object(); }\n"
    ++ codes "int logon() { load_object(\"/h\"); return 1; }\n") (
    (un.Fun 1 [] (Some (record { base = bw.Object; stars = 0 })) (codes "connect") [] (record { line = 1; stmts = (stmts ((sm.Return 1 (Some (tr.Call 1 (codes "this_object") tr.NoTree))) ∷ [])) }))
    ∷ (un.Fun 2 [] (Some (record { base = bw.Int; stars = 0 })) (codes "logon") [] (record {
      line = 2;
      stmts = (stmts (
          (sm.Run 2 (tr.Call 2 (codes "load_object") (trees ((tr.Text 2 (codes "/h")) ∷ []))))
          ∷ (sm.Return 2 (Some (tr.Int 2 (pos 1))))
          ∷ []));
    }))
    ∷ [])

abbrev pub heart : Row
heart = row (heart_source_1 ∷ heart_source_2 ∷ []) ([]) ([]) 0 ((ev.Connect 1) ∷ (ev.Tick 2) ∷ (ev.Tick 4) ∷ [])

-- A call-out of an object that was destructed in the same tick is passed over.
abbrev pub gone_meanwhile_source_1 : Source
gone_meanwhile_source_1 = sound (codes "/secure/master.c") (
    codes "object t;\n"
    ++ codes "object connect() { return this_object(); }\n"
    ++ codes "int logon() { call_out(\"kill\", 1); t = load_object(\"/t\"); return 1; }\n"
    ++ codes "void kill() { tell_object(this_object(), \"kill\"); destruct(t); }\n") (
    (un.Var 1 [] bw.Object ((record { line = 1; stars = 0; name = (codes "t"); value = None }) ∷ []))
    ∷ (un.Fun 2 [] (Some (record { base = bw.Object; stars = 0 })) (codes "connect") [] (record { line = 2; stmts = (stmts ((sm.Return 2 (Some (tr.Call 2 (codes "this_object") tr.NoTree))) ∷ [])) }))
    ∷ (un.Fun 3 [] (Some (record { base = bw.Int; stars = 0 })) (codes "logon") [] (record {
      line = 3;
      stmts = (stmts (
          (sm.Run 3 (tr.Call 3 (codes "call_out") (trees ((tr.Text 3 (codes "kill")) ∷ (tr.Int 3 (pos 1)) ∷ []))))
          ∷ (sm.Run 3 (tr.Assign 3 ao.Set (tr.Name 3 (codes "t")) (tr.Call 3 (codes "load_object") (trees ((tr.Text 3 (codes "/t")) ∷ [])))))
          ∷ (sm.Return 3 (Some (tr.Int 3 (pos 1))))
          ∷ []));
    }))
    ∷ (un.Fun 4 [] (Some (record { base = bw.Void; stars = 0 })) (codes "kill") [] (record {
      line = 4;
      stmts = (stmts (
          (sm.Run 4 (tr.Call 4 (codes "tell_object") (trees ((tr.Call 4 (codes "this_object") tr.NoTree) ∷ (tr.Text 4 (codes "kill")) ∷ []))))
          ∷ (sm.Run 4 (tr.Call 4 (codes "destruct") (trees ((tr.Name 4 (codes "t")) ∷ []))))
          ∷ []));
    }))
    ∷ [])

abbrev pub gone_meanwhile_source_2 : Source
gone_meanwhile_source_2 = sound (codes "/t.c") (codes "void create() { call_out(\"hit\", 1); } void hit() { write(\"hit\"); }\n") (
    (un.Fun 1 [] (Some (record { base = bw.Void; stars = 0 })) (codes "create") [] (record { line = 1; stmts = (stmts ((sm.Run 1 (tr.Call 1 (codes "call_out") (trees ((tr.Text 1 (codes "hit")) ∷ (tr.Int 1 (pos 1)) ∷ [])))) ∷ [])) }))
    ∷ (un.Fun 1 [] (Some (record { base = bw.Void; stars = 0 })) (codes "hit") [] (record { line = 1; stmts = (stmts ((sm.Run 1 (tr.Call 1 (codes "write") (trees ((tr.Text 1 (codes "hit")) ∷ [])))) ∷ [])) }))
    ∷ [])

abbrev pub gone_meanwhile : Row
gone_meanwhile = row (gone_meanwhile_source_1 ∷ gone_meanwhile_source_2 ∷ []) ([]) ([]) 0 ((ev.Connect 1) ∷ (ev.Tick 1) ∷ [])

-- `reset` comes again 1800 seconds after it ran; after an answer 0 `clean_up` does not.
abbrev pub watches_source_1 : Source
watches_source_1 = sound (codes "/o.c") (
    codes "void reset() { write(\"r\"); }\n"
    ++ codes "int clean_up(int n) { write(\"c\" + n); return 0; }\n") (
    (un.Fun 1 [] (Some (record { base = bw.Void; stars = 0 })) (codes "reset") [] (record { line = 1; stmts = (stmts ((sm.Run 1 (tr.Call 1 (codes "write") (trees ((tr.Text 1 (codes "r")) ∷ [])))) ∷ [])) }))
    ∷ (un.Fun 2 [] (Some (record { base = bw.Int; stars = 0 })) (codes "clean_up") ((record { line = 2; type_name = (Some (record { base = bw.Int; stars = 0 })); name = (codes "n") }) ∷ []) (record {
      line = 2;
      stmts = (stmts (
          (sm.Run 2 (tr.Call 2 (codes "write") (trees ((tr.Binary 2 bo.Add (tr.Text 2 (codes "c")) (tr.Name 2 (codes "n"))) ∷ []))))
          ∷ (sm.Return 2 (Some (tr.Int 2 (pos 0))))
          ∷ []));
    }))
    ∷ [])

abbrev pub watches_source_2 : Source
watches_source_2 = sound (codes "/secure/master.c") (
    codes "object connect() { return this_object(); }\n"
    ++ codes "void epilog(int x) { load_object(\"/o\"); }\n") (
    (un.Fun 1 [] (Some (record { base = bw.Object; stars = 0 })) (codes "connect") [] (record { line = 1; stmts = (stmts ((sm.Return 1 (Some (tr.Call 1 (codes "this_object") tr.NoTree))) ∷ [])) }))
    ∷ (un.Fun 2 [] (Some (record { base = bw.Void; stars = 0 })) (codes "epilog") ((record { line = 2; type_name = (Some (record { base = bw.Int; stars = 0 })); name = (codes "x") }) ∷ []) (record { line = 2; stmts = (stmts ((sm.Run 2 (tr.Call 2 (codes "load_object") (trees ((tr.Text 2 (codes "/o")) ∷ [])))) ∷ [])) }))
    ∷ [])

abbrev pub watches : Row
watches = row (watches_source_1 ∷ watches_source_2 ∷ []) ([]) ([]) 0 ((ev.Tick 1799) ∷ (ev.Tick 1800) ∷ (ev.Tick 3600) ∷ (ev.Tick 7200) ∷ [])

-- Each of them gives its transcript.
pub record TimeRows : Type 0 where
  pub call_outs_gives : Gives call_outs (codes "to 1 2\nab\nto 1 1\nc\nend\n")
  pub heart_gives : Gives heart (codes "log 53\nerror: Division by zero [heart_beat of /h, object /h]\nend\n")
  pub gone_meanwhile_gives : Gives gone_meanwhile (codes "to 1 4\nkill\nend\n")
  pub watches_gives : Gives watches (codes "log 1\nr\nlog 1\nr\nlog 2\nc1\nlog 1\nr\nend\n")
