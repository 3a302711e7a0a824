-- Rows on loading and reloading: files, events and the transcript that a run of them has.
use Rattle.std.specs.Prelude.{pos, [], ◌∷◌, ◌++◌, Some, None, codes}
use Rattle.lp_tree.specs.Trees as tr
use Rattle.lp_tree.specs.Trees.{trees}
use Rattle.lp_tree.specs.Statements as sm
use Rattle.lp_tree.specs.Units as un
use Rattle.lp_tree.specs.declared.keyword.Base.TheVariants as bw
use Rattle.lp_tree.specs.declared.operator.BinOp.TheVariants as bo
use Rattle.lp_tree.specs.declared.operator.AssignOp.TheVariants as ao
use Rattle.lp_tree.specs.declared.fault.FaultKind.TheVariants as fk
use Rattle.lp_events.specs.declared.event.Event.TheVariants as ev
use Rattle.lp_meaning_rows.specs.Rows.{Source, Row, stmts, sound, unsound, row, Gives, Refuses}

-- A file that does not compile: its fault, the error of who loads it, and the connection is closed.
abbrev pub no_compile_source_1 : Source
no_compile_source_1 = unsound (codes "/p.c") (codes "int logon( {\n") (record { file = (codes "/p.c"); line = 1; kind = fk.Unexpected })

abbrev pub no_compile_source_2 : Source
no_compile_source_2 = sound (codes "/secure/master.c") (codes "object connect() { return clone_object(\"/p\"); }\n") (
    (un.Fun 1 [] (Some (record { base = bw.Object; stars = 0 })) (codes "connect") [] (record { line = 1; stmts = (stmts ((sm.Return 1 (Some (tr.Call 1 (codes "clone_object") (trees ((tr.Text 1 (codes "/p")) ∷ []))))) ∷ [])) }))
    ∷ [])

abbrev pub no_compile : Row
no_compile = row (no_compile_source_1 ∷ no_compile_source_2 ∷ []) ([]) ([]) 0 ((ev.Connect 1) ∷ [])

-- A master that does not compile.
abbrev pub no_master_source : Source
no_master_source = unsound (codes "/secure/master.c") (codes "int logon( {\n") (record { file = (codes "/secure/master.c"); line = 1; kind = fk.Unexpected })

abbrev pub no_master : Row
no_master = row (no_master_source ∷ []) ([]) ([]) 0 ((ev.Connect 1) ∷ [])

-- A clone keeps its version; the next load compiles anew.
abbrev pub reload_source_1 : Source
reload_source_1 = sound (codes "/c.c") (codes "string v() { return \"old\"; }\n") (
    (un.Fun 1 [] (Some (record { base = bw.String; stars = 0 })) (codes "v") [] (record { line = 1; stmts = (stmts ((sm.Return 1 (Some (tr.Text 1 (codes "old")))) ∷ [])) }))
    ∷ [])

abbrev pub reload_source_2 : Source
reload_source_2 = sound (codes "/secure/master.c") (
    codes "object x;\n"
    ++ codes "object connect() { return this_object(); }\n"
    ++ codes "int logon() { x = clone_object(\"/c\"); enable_commands(); add_action(\"go\", \"go\"); return 1; }\n"
    ++ codes "int go(string s) { write(x->v() + clone_object(\"/c\")->v() + \"\\n\"); return 1; }\n") (
    (un.Var 1 [] bw.Object ((record { line = 1; stars = 0; name = (codes "x"); value = None }) ∷ []))
    ∷ (un.Fun 2 [] (Some (record { base = bw.Object; stars = 0 })) (codes "connect") [] (record { line = 2; stmts = (stmts ((sm.Return 2 (Some (tr.Call 2 (codes "this_object") tr.NoTree))) ∷ [])) }))
    ∷ (un.Fun 3 [] (Some (record { base = bw.Int; stars = 0 })) (codes "logon") [] (record {
      line = 3;
      stmts = (stmts (
          (sm.Run 3 (tr.Assign 3 ao.Set (tr.Name 3 (codes "x")) (tr.Call 3 (codes "clone_object") (trees ((tr.Text 3 (codes "/c")) ∷ [])))))
          ∷ (sm.Run 3 (tr.Call 3 (codes "enable_commands") tr.NoTree))
          ∷ (sm.Run 3 (tr.Call 3 (codes "add_action") (trees ((tr.Text 3 (codes "go")) ∷ (tr.Text 3 (codes "go")) ∷ []))))
          ∷ (sm.Return 3 (Some (tr.Int 3 (pos 1))))
          ∷ []));
    }))
    ∷ (un.Fun 4 [] (Some (record { base = bw.Int; stars = 0 })) (codes "go") ((record { line = 4; type_name = (Some (record { base = bw.String; stars = 0 })); name = (codes "s") }) ∷ []) (record {
      line = 4;
      stmts = (stmts (
          (sm.Run 4 (tr.Call 4 (codes "write") (trees ((tr.Binary 4 bo.Add (tr.Binary 4 bo.Add (tr.CallOther 4 (tr.Name 4 (codes "x")) (codes "v") tr.NoTree) (tr.CallOther 4 (tr.Call 4 (codes "clone_object") (trees ((tr.Text 4 (codes "/c")) ∷ []))) (codes "v") tr.NoTree)) (tr.Text 4 (codes "\n"))) ∷ []))))
          ∷ (sm.Return 4 (Some (tr.Int 4 (pos 1))))
          ∷ []));
    }))
    ∷ [])

abbrev pub reload_source_3 : Source
reload_source_3 = sound (codes "/c.c") (codes "string v() { return \"new\"; }\n") (
    (un.Fun 1 [] (Some (record { base = bw.String; stars = 0 })) (codes "v") [] (record { line = 1; stmts = (stmts ((sm.Return 1 (Some (tr.Text 1 (codes "new")))) ∷ [])) }))
    ∷ [])

abbrev pub reload : Row
reload = row (reload_source_1 ∷ reload_source_2 ∷ []) (reload_source_3 ∷ []) ([]) 0 ((ev.Connect 1) ∷ (ev.Reload (codes "/c.c") (codes "string v() { return \"new\"; }\n")) ∷ (ev.Line 1 (codes "go")) ∷ [])

-- A version keeps the version of its parent.
abbrev pub parent_kept_source_1 : Source
parent_kept_source_1 = sound (codes "/k.c") (codes "inherit \"/p\";\n") (
    (un.Inherit 1 (codes "/p"))
    ∷ [])

abbrev pub parent_kept_source_2 : Source
parent_kept_source_2 = sound (codes "/p.c") (codes "string v() { return \"p1\"; }\n") (
    (un.Fun 1 [] (Some (record { base = bw.String; stars = 0 })) (codes "v") [] (record { line = 1; stmts = (stmts ((sm.Return 1 (Some (tr.Text 1 (codes "p1")))) ∷ [])) }))
    ∷ [])

abbrev pub parent_kept_source_3 : Source
parent_kept_source_3 = sound (codes "/secure/master.c") (
    codes "object connect() { return this_object(); }\n"
    ++ codes "int logon() { load_object(\"/k\"); enable_commands(); add_action(\"go\", \"go\"); return 1; }\n"
    ++ codes "int go(string s) { write(\"/k\"->v() + \"/p\"->v() + \"\\n\"); return 1; }\n") (
    (un.Fun 1 [] (Some (record { base = bw.Object; stars = 0 })) (codes "connect") [] (record { line = 1; stmts = (stmts ((sm.Return 1 (Some (tr.Call 1 (codes "this_object") tr.NoTree))) ∷ [])) }))
    ∷ (un.Fun 2 [] (Some (record { base = bw.Int; stars = 0 })) (codes "logon") [] (record {
      line = 2;
      stmts = (stmts (
          (sm.Run 2 (tr.Call 2 (codes "load_object") (trees ((tr.Text 2 (codes "/k")) ∷ []))))
          ∷ (sm.Run 2 (tr.Call 2 (codes "enable_commands") tr.NoTree))
          ∷ (sm.Run 2 (tr.Call 2 (codes "add_action") (trees ((tr.Text 2 (codes "go")) ∷ (tr.Text 2 (codes "go")) ∷ []))))
          ∷ (sm.Return 2 (Some (tr.Int 2 (pos 1))))
          ∷ []));
    }))
    ∷ (un.Fun 3 [] (Some (record { base = bw.Int; stars = 0 })) (codes "go") ((record { line = 3; type_name = (Some (record { base = bw.String; stars = 0 })); name = (codes "s") }) ∷ []) (record {
      line = 3;
      stmts = (stmts (
          (sm.Run 3 (tr.Call 3 (codes "write") (trees ((tr.Binary 3 bo.Add (tr.Binary 3 bo.Add (tr.CallOther 3 (tr.Text 3 (codes "/k")) (codes "v") tr.NoTree) (tr.CallOther 3 (tr.Text 3 (codes "/p")) (codes "v") tr.NoTree)) (tr.Text 3 (codes "\n"))) ∷ []))))
          ∷ (sm.Return 3 (Some (tr.Int 3 (pos 1))))
          ∷ []));
    }))
    ∷ [])

abbrev pub parent_kept_source_4 : Source
parent_kept_source_4 = sound (codes "/p.c") (codes "string v() { return \"p2\"; }\n") (
    (un.Fun 1 [] (Some (record { base = bw.String; stars = 0 })) (codes "v") [] (record { line = 1; stmts = (stmts ((sm.Return 1 (Some (tr.Text 1 (codes "p2")))) ∷ [])) }))
    ∷ [])

abbrev pub parent_kept : Row
parent_kept = row (parent_kept_source_1 ∷ parent_kept_source_2 ∷ parent_kept_source_3 ∷ []) (parent_kept_source_4 ∷ []) ([]) 0 ((ev.Connect 1) ∷ (ev.Reload (codes "/p.c") (codes "string v() { return \"p2\"; }\n")) ∷ (ev.Line 1 (codes "go")) ∷ [])

-- At the start the master names what it preloads; without a player what is written is a log record.
abbrev pub preload_source_1 : Source
preload_source_1 = sound (codes "/q.c") (codes "void create() { write(\"up\"); }\n") (
    (un.Fun 1 [] (Some (record { base = bw.Void; stars = 0 })) (codes "create") [] (record { line = 1; stmts = (stmts ((sm.Run 1 (tr.Call 1 (codes "write") (trees ((tr.Text 1 (codes "up")) ∷ [])))) ∷ [])) }))
    ∷ [])

abbrev pub preload_source_2 : Source
preload_source_2 = sound (codes "/secure/master.c") (
    codes "object connect() { return this_object(); }\n"
    ++ codes "mixed *epilog(int x) { return ({\"/q\"}); }\n"
    ++ codes "void preload(string s) { load_object(s); }\n") (
    (un.Fun 1 [] (Some (record { base = bw.Object; stars = 0 })) (codes "connect") [] (record { line = 1; stmts = (stmts ((sm.Return 1 (Some (tr.Call 1 (codes "this_object") tr.NoTree))) ∷ [])) }))
    ∷ (un.Fun 2 [] (Some (record { base = bw.Mixed; stars = 1 })) (codes "epilog") ((record { line = 2; type_name = (Some (record { base = bw.Int; stars = 0 })); name = (codes "x") }) ∷ []) (record { line = 2; stmts = (stmts ((sm.Return 2 (Some (tr.Array 2 (trees ((tr.Text 2 (codes "/q")) ∷ []))))) ∷ [])) }))
    ∷ (un.Fun 3 [] (Some (record { base = bw.Void; stars = 0 })) (codes "preload") ((record { line = 3; type_name = (Some (record { base = bw.String; stars = 0 })); name = (codes "s") }) ∷ []) (record { line = 3; stmts = (stmts ((sm.Run 3 (tr.Call 3 (codes "load_object") (trees ((tr.Name 3 (codes "s")) ∷ [])))) ∷ [])) }))
    ∷ [])

abbrev pub preload : Row
preload = row (preload_source_1 ∷ preload_source_2 ∷ []) ([]) ([]) 0 ([])

-- Each of them gives its transcript, or its faults.
pub record LoadsRows : Type 0 where
  pub no_compile_gives : Gives no_compile (codes "log 29\n/p.c line 1: unexpected token\nlog 75\nerror: Could not load /p [connect of /secure/master, object /secure/master]\nclose 1\nend\n")
  pub no_master_refused : Refuses no_master (record { file = (codes "/secure/master.c"); line = 1; kind = fk.Unexpected } ∷ [])
  pub reload_gives : Gives reload (codes "to 1 7\noldnew\n\nend\n")
  pub parent_kept_gives : Gives parent_kept (codes "to 1 5\np1p2\n\nend\n")
  pub preload_gives : Gives preload (codes "log 2\nup\nend\n")
