-- Rows on files and saved text: files, events and the transcript that a run of them has.
use Rattle.std.specs.Prelude.{pos, [], ◌∷◌, ◌++◌, Some, None, codes}
use Rattle.lp_tree.specs.Trees as tr
use Rattle.lp_tree.specs.Trees.{trees}
use Rattle.lp_tree.specs.Statements as sm
use Rattle.lp_tree.specs.Units as un
use Rattle.lp_tree.specs.declared.keyword.Base.TheVariants as bw
use Rattle.lp_tree.specs.declared.operator.BinOp.TheVariants as bo
use Rattle.lp_tree.specs.declared.operator.AssignOp.TheVariants as ao
use Rattle.lp_tree.specs.declared.expr.Edge.TheVariants as ed
use Rattle.lp_events.specs.declared.event.Event.TheVariants as ev
use Rattle.lp_meaning_rows.specs.Rows.{Source, Row, stmts, sound, text_file, row, Gives}

-- A saved array that holds another one twice; an object is saved as 0.
abbrev pub saved_source : Source
saved_source = sound (codes "/secure/master.c") (
    codes "mixed *v;\n"
    ++ codes "int valid_read() { return 1; } int valid_write() { return 1; }\n"
    ++ codes "object connect() { return this_object(); }\n"
    ++ codes "int logon() { mixed *x; x = ({this_object()}); v = ({x, x}); save_object(\"/data/m\"); v = 0; restore_object(\"/data/m\"); write(read_file(\"/data/m.o\") + (v[0] == v[1]) + \",\" + v[0][0] + \"\\n\"); return 1; }\n") (
    (un.Var 1 [] bw.Mixed ((record { line = 1; stars = 1; name = (codes "v"); value = None }) ∷ []))
    ∷ (un.Fun 2 [] (Some (record { base = bw.Int; stars = 0 })) (codes "valid_read") [] (record { line = 2; stmts = (stmts ((sm.Return 2 (Some (tr.Int 2 (pos 1)))) ∷ [])) }))
    ∷ (un.Fun 2 [] (Some (record { base = bw.Int; stars = 0 })) (codes "valid_write") [] (record { line = 2; stmts = (stmts ((sm.Return 2 (Some (tr.Int 2 (pos 1)))) ∷ [])) }))
    ∷ (un.Fun 3 [] (Some (record { base = bw.Object; stars = 0 })) (codes "connect") [] (record { line = 3; stmts = (stmts ((sm.Return 3 (Some (tr.Call 3 (codes "this_object") tr.NoTree))) ∷ [])) }))
    ∷ (un.Fun 4 [] (Some (record { base = bw.Int; stars = 0 })) (codes "logon") [] (record {
      line = 4;
      stmts = (stmts (
          (sm.Declares 4 (record { line = 4; base = bw.Mixed; ones = ((record { line = 4; stars = 1; name = (codes "x"); value = None }) ∷ []) }))
          ∷ (sm.Run 4 (tr.Assign 4 ao.Set (tr.Name 4 (codes "x")) (tr.Array 4 (trees ((tr.Call 4 (codes "this_object") tr.NoTree) ∷ [])))))
          ∷ (sm.Run 4 (tr.Assign 4 ao.Set (tr.Name 4 (codes "v")) (tr.Array 4 (trees ((tr.Name 4 (codes "x")) ∷ (tr.Name 4 (codes "x")) ∷ [])))))
          ∷ (sm.Run 4 (tr.Call 4 (codes "save_object") (trees ((tr.Text 4 (codes "/data/m")) ∷ []))))
          ∷ (sm.Run 4 (tr.Assign 4 ao.Set (tr.Name 4 (codes "v")) (tr.Int 4 (pos 0))))
          ∷ (sm.Run 4 (tr.Call 4 (codes "restore_object") (trees ((tr.Text 4 (codes "/data/m")) ∷ []))))
          ∷ (sm.Run 4 (tr.Call 4 (codes "write") (trees ((tr.Binary 4 bo.Add (tr.Binary 4 bo.Add (tr.Binary 4 bo.Add (tr.Binary 4 bo.Add (tr.Call 4 (codes "read_file") (trees ((tr.Text 4 (codes "/data/m.o")) ∷ []))) (tr.Paren 4 (tr.Binary 4 bo.Eq (tr.Index 4 (tr.Name 4 (codes "v")) ed.Front (tr.Int 4 (pos 0))) (tr.Index 4 (tr.Name 4 (codes "v")) ed.Front (tr.Int 4 (pos 1)))))) (tr.Text 4 (codes ","))) (tr.Index 4 (tr.Index 4 (tr.Name 4 (codes "v")) ed.Front (tr.Int 4 (pos 0))) ed.Front (tr.Int 4 (pos 0)))) (tr.Text 4 (codes "\n"))) ∷ []))))
          ∷ (sm.Return 4 (Some (tr.Int 4 (pos 1))))
          ∷ []));
    }))
    ∷ [])

abbrev pub saved : Row
saved = row (saved_source ∷ []) ([]) ([]) 0 ((ev.Connect 1) ∷ [])

-- The first faulty line is told, and nothing changes.
abbrev pub bad_save_source : Source
bad_save_source = sound (codes "/secure/master.c") (
    codes "mixed *v;\n"
    ++ codes "int valid_read() { return 1; } int valid_write() { return 1; }\n"
    ++ codes "object connect() { return this_object(); }\n"
    ++ codes "int logon() { v = ({5}); write(catch(restore_object(\"/data/m\"))); write(v[0]); return 1; }\n") (
    (un.Var 1 [] bw.Mixed ((record { line = 1; stars = 1; name = (codes "v"); value = None }) ∷ []))
    ∷ (un.Fun 2 [] (Some (record { base = bw.Int; stars = 0 })) (codes "valid_read") [] (record { line = 2; stmts = (stmts ((sm.Return 2 (Some (tr.Int 2 (pos 1)))) ∷ [])) }))
    ∷ (un.Fun 2 [] (Some (record { base = bw.Int; stars = 0 })) (codes "valid_write") [] (record { line = 2; stmts = (stmts ((sm.Return 2 (Some (tr.Int 2 (pos 1)))) ∷ [])) }))
    ∷ (un.Fun 3 [] (Some (record { base = bw.Object; stars = 0 })) (codes "connect") [] (record { line = 3; stmts = (stmts ((sm.Return 3 (Some (tr.Call 3 (codes "this_object") tr.NoTree))) ∷ [])) }))
    ∷ (un.Fun 4 [] (Some (record { base = bw.Int; stars = 0 })) (codes "logon") [] (record {
      line = 4;
      stmts = (stmts (
          (sm.Run 4 (tr.Assign 4 ao.Set (tr.Name 4 (codes "v")) (tr.Array 4 (trees ((tr.Int 4 (pos 5)) ∷ [])))))
          ∷ (sm.Run 4 (tr.Call 4 (codes "write") (trees ((tr.Catch 4 (tr.Call 4 (codes "restore_object") (trees ((tr.Text 4 (codes "/data/m")) ∷ [])))) ∷ []))))
          ∷ (sm.Run 4 (tr.Call 4 (codes "write") (trees ((tr.Index 4 (tr.Name 4 (codes "v")) ed.Front (tr.Int 4 (pos 0))) ∷ []))))
          ∷ (sm.Return 4 (Some (tr.Int 4 (pos 1))))
          ∷ []));
    }))
    ∷ [])

abbrev pub bad_save : Row
bad_save = row (bad_save_source ∷ []) ([]) ((text_file (codes "/data/m.o") (codes "#2:0\nv 7\nw \"ab\n")) ∷ []) 0 ((ev.Connect 1) ∷ [])

-- The master names another file.
abbrev pub redirected_source : Source
redirected_source = sound (codes "/secure/master.c") (
    codes "string valid_read() { return \"/b.txt\"; }\n"
    ++ codes "object connect() { return this_object(); }\n"
    ++ codes "int logon() { write(read_file(\"/a.txt\")); return 1; }\n") (
    (un.Fun 1 [] (Some (record { base = bw.String; stars = 0 })) (codes "valid_read") [] (record { line = 1; stmts = (stmts ((sm.Return 1 (Some (tr.Text 1 (codes "/b.txt")))) ∷ [])) }))
    ∷ (un.Fun 2 [] (Some (record { base = bw.Object; stars = 0 })) (codes "connect") [] (record { line = 2; stmts = (stmts ((sm.Return 2 (Some (tr.Call 2 (codes "this_object") tr.NoTree))) ∷ [])) }))
    ∷ (un.Fun 3 [] (Some (record { base = bw.Int; stars = 0 })) (codes "logon") [] (record {
      line = 3;
      stmts = (stmts (
          (sm.Run 3 (tr.Call 3 (codes "write") (trees ((tr.Call 3 (codes "read_file") (trees ((tr.Text 3 (codes "/a.txt")) ∷ []))) ∷ []))))
          ∷ (sm.Return 3 (Some (tr.Int 3 (pos 1))))
          ∷ []));
    }))
    ∷ [])

abbrev pub redirected : Row
redirected = row (redirected_source ∷ []) ([]) ((text_file (codes "/a.txt") (codes "ay")) ∷ (text_file (codes "/b.txt") (codes "bee")) ∷ []) 0 ((ev.Connect 1) ∷ [])

-- Without leave nothing is written.
abbrev pub refused_source : Source
refused_source = sound (codes "/secure/master.c") (
    codes "int valid_read() { return 1; }\n"
    ++ codes "object connect() { return this_object(); }\n"
    ++ codes "int logon() { write(write_file(\"/a.txt\", \"x\") + read_file(\"/a.txt\")); return 1; }\n") (
    (un.Fun 1 [] (Some (record { base = bw.Int; stars = 0 })) (codes "valid_read") [] (record { line = 1; stmts = (stmts ((sm.Return 1 (Some (tr.Int 1 (pos 1)))) ∷ [])) }))
    ∷ (un.Fun 2 [] (Some (record { base = bw.Object; stars = 0 })) (codes "connect") [] (record { line = 2; stmts = (stmts ((sm.Return 2 (Some (tr.Call 2 (codes "this_object") tr.NoTree))) ∷ [])) }))
    ∷ (un.Fun 3 [] (Some (record { base = bw.Int; stars = 0 })) (codes "logon") [] (record {
      line = 3;
      stmts = (stmts (
          (sm.Run 3 (tr.Call 3 (codes "write") (trees ((tr.Binary 3 bo.Add (tr.Call 3 (codes "write_file") (trees ((tr.Text 3 (codes "/a.txt")) ∷ (tr.Text 3 (codes "x")) ∷ []))) (tr.Call 3 (codes "read_file") (trees ((tr.Text 3 (codes "/a.txt")) ∷ [])))) ∷ []))))
          ∷ (sm.Return 3 (Some (tr.Int 3 (pos 1))))
          ∷ []));
    }))
    ∷ [])

abbrev pub refused : Row
refused = row (refused_source ∷ []) ([]) ((text_file (codes "/a.txt") (codes "ay")) ∷ []) 0 ((ev.Connect 1) ∷ [])

-- Each of them gives its transcript.
pub record FilesRows : Type 0 where
  pub saved_gives : Gives saved (codes "to 1 31\n#2:0\nv ({<1>=({0,}),<1>,})\n1,0\n\nend\n")
  pub bad_save_gives : Gives bad_save (codes "to 1 40\n*Illegal save text in /data/m.o line 3\n5\nend\n")
  pub redirected_gives : Gives redirected (codes "to 1 3\nbee\nend\n")
  pub refused_gives : Gives refused (codes "to 1 3\n0ay\nend\n")
