-- Rows on values, operators and statements: files, events and the transcript that a run of them has.
use Rattle.std.specs.Prelude.{pos, [], ◌∷◌, ◌++◌, Some, None, codes}
use Rattle.lp_tree.specs.Trees as tr
use Rattle.lp_tree.specs.Trees.{trees, pairs}
use Rattle.lp_tree.specs.Statements as sm
use Rattle.lp_tree.specs.Units as un
use Rattle.lp_tree.specs.declared.keyword.Base.TheVariants as bw
use Rattle.lp_tree.specs.declared.operator.BinOp.TheVariants as bo
use Rattle.lp_tree.specs.declared.operator.UnOp.TheVariants as uo
use Rattle.lp_tree.specs.declared.operator.AssignOp.TheVariants as ao
use Rattle.lp_tree.specs.declared.operator.Step.TheVariants as st
use Rattle.lp_tree.specs.declared.expr.Edge.TheVariants as ed
use Rattle.lp_tree.specs.declared.stmt.Constant.TheVariants as co
use Rattle.lp_tree.specs.declared.stmt.Label.TheVariants as la
use Rattle.lp_events.specs.declared.event.Event.TheVariants as ev
use Rattle.lp_meaning_rows.specs.Rows.{Source, Row, stmts, sound, row, Gives}

-- An array that two variables name.
abbrev pub alias_source : Source
alias_source = sound (codes "/secure/master.c") (
    codes "object connect() { return this_object(); }\n"
    ++ codes "int logon() { int *a, *b; a = ({1, 2}); b = a; b[0] = 9; write(a[0] + \"\\n\"); return 1; }\n") (
    (un.Fun 1 [] (Some (record { base = bw.Object; stars = 0 })) (codes "connect") [] (record { line = 1; stmts = (stmts ((sm.Return 1 (Some (tr.Call 1 (codes "this_object") tr.NoTree))) ∷ [])) }))
    ∷ (un.Fun 2 [] (Some (record { base = bw.Int; stars = 0 })) (codes "logon") [] (record {
      line = 2;
      stmts = (stmts (
          (sm.Declares 2 (record { line = 2; base = bw.Int; ones = ((record { line = 2; stars = 1; name = (codes "a"); value = None }) ∷ (record { line = 2; stars = 1; name = (codes "b"); value = None }) ∷ []) }))
          ∷ (sm.Run 2 (tr.Assign 2 ao.Set (tr.Name 2 (codes "a")) (tr.Array 2 (trees ((tr.Int 2 (pos 1)) ∷ (tr.Int 2 (pos 2)) ∷ [])))))
          ∷ (sm.Run 2 (tr.Assign 2 ao.Set (tr.Name 2 (codes "b")) (tr.Name 2 (codes "a"))))
          ∷ (sm.Run 2 (tr.Assign 2 ao.Set (tr.Index 2 (tr.Name 2 (codes "b")) ed.Front (tr.Int 2 (pos 0))) (tr.Int 2 (pos 9))))
          ∷ (sm.Run 2 (tr.Call 2 (codes "write") (trees ((tr.Binary 2 bo.Add (tr.Index 2 (tr.Name 2 (codes "a")) ed.Front (tr.Int 2 (pos 0))) (tr.Text 2 (codes "\n"))) ∷ []))))
          ∷ (sm.Return 2 (Some (tr.Int 2 (pos 1))))
          ∷ []));
    }))
    ∷ [])

abbrev pub alias : Row
alias = row (alias_source ∷ []) ([]) ([]) 0 ((ev.Connect 1) ∷ [])

-- The right side of an assignment comes before its place, and operands come from left to right.
abbrev pub order_source : Source
order_source = sound (codes "/secure/master.c") (
    codes "string s = \"\";\n"
    ++ codes "int t(int i) { s += i; return i; }\n"
    ++ codes "object connect() { return this_object(); }\n"
    ++ codes "int logon() { int *a; a = ({0, 0}); a[t(1)] = t(2) + t(3); write(s + a[1]); return 1; }\n") (
    (un.Var 1 [] bw.String ((record { line = 1; stars = 0; name = (codes "s"); value = (Some (tr.Text 1 (codes ""))) }) ∷ []))
    ∷ (un.Fun 2 [] (Some (record { base = bw.Int; stars = 0 })) (codes "t") ((record { line = 2; type_name = (Some (record { base = bw.Int; stars = 0 })); name = (codes "i") }) ∷ []) (record {
      line = 2;
      stmts = (stmts (
          (sm.Run 2 (tr.Assign 2 ao.Add (tr.Name 2 (codes "s")) (tr.Name 2 (codes "i"))))
          ∷ (sm.Return 2 (Some (tr.Name 2 (codes "i"))))
          ∷ []));
    }))
    ∷ (un.Fun 3 [] (Some (record { base = bw.Object; stars = 0 })) (codes "connect") [] (record { line = 3; stmts = (stmts ((sm.Return 3 (Some (tr.Call 3 (codes "this_object") tr.NoTree))) ∷ [])) }))
    ∷ (un.Fun 4 [] (Some (record { base = bw.Int; stars = 0 })) (codes "logon") [] (record {
      line = 4;
      stmts = (stmts (
          (sm.Declares 4 (record { line = 4; base = bw.Int; ones = ((record { line = 4; stars = 1; name = (codes "a"); value = None }) ∷ []) }))
          ∷ (sm.Run 4 (tr.Assign 4 ao.Set (tr.Name 4 (codes "a")) (tr.Array 4 (trees ((tr.Int 4 (pos 0)) ∷ (tr.Int 4 (pos 0)) ∷ [])))))
          ∷ (sm.Run 4 (tr.Assign 4 ao.Set (tr.Index 4 (tr.Name 4 (codes "a")) ed.Front (tr.Call 4 (codes "t") (trees ((tr.Int 4 (pos 1)) ∷ [])))) (tr.Binary 4 bo.Add (tr.Call 4 (codes "t") (trees ((tr.Int 4 (pos 2)) ∷ []))) (tr.Call 4 (codes "t") (trees ((tr.Int 4 (pos 3)) ∷ []))))))
          ∷ (sm.Run 4 (tr.Call 4 (codes "write") (trees ((tr.Binary 4 bo.Add (tr.Name 4 (codes "s")) (tr.Index 4 (tr.Name 4 (codes "a")) ed.Front (tr.Int 4 (pos 1)))) ∷ []))))
          ∷ (sm.Return 4 (Some (tr.Int 4 (pos 1))))
          ∷ []));
    }))
    ∷ [])

abbrev pub order : Row
order = row (order_source ∷ []) ([]) ([]) 0 ((ev.Connect 1) ∷ [])

-- Loops, a switch that falls through, and operators that evaluate only what is needed.
abbrev pub statements_source : Source
statements_source = sound (codes "/secure/master.c") (
    codes "object connect() { return this_object(); }\n"
    ++ codes "int logon() {\n"
    ++ codes "  int i, n; string s; s = \"\";\n"
    ++ codes "  for (i = 0; i < 5; i++) { if (i == 1) continue; if (i == 4) break; s += i; }\n"
    ++ codes "  do n++; while (n < 3);\n"
    ++ codes "  switch (n) { case 1: s += \"x\"; case 3: s += \"y\"; case 4 .. 5: s += \"z\"; break; default: s += \"d\"; }\n"
    ++ codes "  foreach (int j : ({7, 8})) s += j;\n"
    ++ codes "  s += (n && 0) || 5;\n"
    ++ codes "  s += n ? \"t\" : \"f\";\n"
    ++ codes "  while (n--) if (n == 1) return 0 * write(s);\n"
    ++ codes "  return 1;\n"
    ++ codes "}\n") (
    (un.Fun 1 [] (Some (record { base = bw.Object; stars = 0 })) (codes "connect") [] (record { line = 1; stmts = (stmts ((sm.Return 1 (Some (tr.Call 1 (codes "this_object") tr.NoTree))) ∷ [])) }))
    ∷ (un.Fun 2 [] (Some (record { base = bw.Int; stars = 0 })) (codes "logon") [] (record {
      line = 2;
      stmts = (stmts (
          (sm.Declares 3 (record { line = 3; base = bw.Int; ones = ((record { line = 3; stars = 0; name = (codes "i"); value = None }) ∷ (record { line = 3; stars = 0; name = (codes "n"); value = None }) ∷ []) }))
          ∷ (sm.Declares 3 (record { line = 3; base = bw.String; ones = ((record { line = 3; stars = 0; name = (codes "s"); value = None }) ∷ []) }))
          ∷ (sm.Run 3 (tr.Assign 3 ao.Set (tr.Name 3 (codes "s")) (tr.Text 3 (codes ""))))
          ∷ (sm.For 4 (sm.RunsFirst (tr.Assign 4 ao.Set (tr.Name 4 (codes "i")) (tr.Int 4 (pos 0)))) (Some (tr.Binary 4 bo.Lt (tr.Name 4 (codes "i")) (tr.Int 4 (pos 5)))) (Some (tr.PostStep 4 st.Up (tr.Name 4 (codes "i")))) (sm.Block 4 (stmts (
          (sm.If 4 (tr.Binary 4 bo.Eq (tr.Name 4 (codes "i")) (tr.Int 4 (pos 1))) (sm.Continue 4) sm.NoElse)
          ∷ (sm.If 4 (tr.Binary 4 bo.Eq (tr.Name 4 (codes "i")) (tr.Int 4 (pos 4))) (sm.Break 4) sm.NoElse)
          ∷ (sm.Run 4 (tr.Assign 4 ao.Add (tr.Name 4 (codes "s")) (tr.Name 4 (codes "i"))))
          ∷ []))))
          ∷ (sm.DoWhile 5 (sm.Run 5 (tr.PostStep 5 st.Up (tr.Name 5 (codes "n")))) (tr.Binary 5 bo.Lt (tr.Name 5 (codes "n")) (tr.Int 5 (pos 3))))
          ∷ (sm.Switch 6 (tr.Name 6 (codes "n")) (sm.LabelPart (la.Case 6 (co.Int (pos 1))) (sm.StmtPart (sm.Run 6 (tr.Assign 6 ao.Add (tr.Name 6 (codes "s")) (tr.Text 6 (codes "x")))) (sm.LabelPart (la.Case 6 (co.Int (pos 3))) (sm.StmtPart (sm.Run 6 (tr.Assign 6 ao.Add (tr.Name 6 (codes "s")) (tr.Text 6 (codes "y")))) (sm.LabelPart (la.Range 6 (pos 4) (pos 5)) (sm.StmtPart (sm.Run 6 (tr.Assign 6 ao.Add (tr.Name 6 (codes "s")) (tr.Text 6 (codes "z")))) (sm.StmtPart (sm.Break 6) (sm.LabelPart (la.Default 6) (sm.StmtPart (sm.Run 6 (tr.Assign 6 ao.Add (tr.Name 6 (codes "s")) (tr.Text 6 (codes "d")))) sm.NoPart))))))))))
          ∷ (sm.Foreach 7 (record { line = 7; type_name = (Some (record { base = bw.Int; stars = 0 })); name = (codes "j") }) None (tr.Array 7 (trees ((tr.Int 7 (pos 7)) ∷ (tr.Int 7 (pos 8)) ∷ []))) (sm.Run 7 (tr.Assign 7 ao.Add (tr.Name 7 (codes "s")) (tr.Name 7 (codes "j")))))
          ∷ (sm.Run 8 (tr.Assign 8 ao.Add (tr.Name 8 (codes "s")) (tr.OrElse 8 (tr.Paren 8 (tr.AndThen 8 (tr.Name 8 (codes "n")) (tr.Int 8 (pos 0)))) (tr.Int 8 (pos 5)))))
          ∷ (sm.Run 9 (tr.Assign 9 ao.Add (tr.Name 9 (codes "s")) (tr.Cond 9 (tr.Name 9 (codes "n")) (tr.Text 9 (codes "t")) (tr.Text 9 (codes "f")))))
          ∷ (sm.While 10 (tr.PostStep 10 st.Down (tr.Name 10 (codes "n"))) (sm.If 10 (tr.Binary 10 bo.Eq (tr.Name 10 (codes "n")) (tr.Int 10 (pos 1))) (sm.Return 10 (Some (tr.Binary 10 bo.Mul (tr.Int 10 (pos 0)) (tr.Call 10 (codes "write") (trees ((tr.Name 10 (codes "s")) ∷ [])))))) sm.NoElse))
          ∷ (sm.Return 11 (Some (tr.Int 11 (pos 1))))
          ∷ []));
    }))
    ∷ [])

abbrev pub statements : Row
statements = row (statements_source ∷ []) ([]) ([]) 0 ((ev.Connect 1) ∷ [])

-- A run-time error that is caught.
abbrev pub zero_divisor_source : Source
zero_divisor_source = sound (codes "/secure/master.c") (
    codes "object connect() { return this_object(); }\n"
    ++ codes "int logon() { write(catch(1 / 0)); return 1; }\n") (
    (un.Fun 1 [] (Some (record { base = bw.Object; stars = 0 })) (codes "connect") [] (record { line = 1; stmts = (stmts ((sm.Return 1 (Some (tr.Call 1 (codes "this_object") tr.NoTree))) ∷ [])) }))
    ∷ (un.Fun 2 [] (Some (record { base = bw.Int; stars = 0 })) (codes "logon") [] (record {
      line = 2;
      stmts = (stmts (
          (sm.Run 2 (tr.Call 2 (codes "write") (trees ((tr.Catch 2 (tr.Binary 2 bo.Div (tr.Int 2 (pos 1)) (tr.Int 2 (pos 0)))) ∷ []))))
          ∷ (sm.Return 2 (Some (tr.Int 2 (pos 1))))
          ∷ []));
    }))
    ∷ [])

abbrev pub zero_divisor : Row
zero_divisor = row (zero_divisor_source ∷ []) ([]) ([]) 0 ((ev.Connect 1) ∷ [])

-- A thrown value that is caught.
abbrev pub thrown_source : Source
thrown_source = sound (codes "/secure/master.c") (
    codes "object connect() { return this_object(); }\n"
    ++ codes "int logon() { write(catch(throw(5))); return 1; }\n") (
    (un.Fun 1 [] (Some (record { base = bw.Object; stars = 0 })) (codes "connect") [] (record { line = 1; stmts = (stmts ((sm.Return 1 (Some (tr.Call 1 (codes "this_object") tr.NoTree))) ∷ [])) }))
    ∷ (un.Fun 2 [] (Some (record { base = bw.Int; stars = 0 })) (codes "logon") [] (record {
      line = 2;
      stmts = (stmts (
          (sm.Run 2 (tr.Call 2 (codes "write") (trees ((tr.Catch 2 (tr.Call 2 (codes "throw") (trees ((tr.Int 2 (pos 5)) ∷ [])))) ∷ []))))
          ∷ (sm.Return 2 (Some (tr.Int 2 (pos 1))))
          ∷ []));
    }))
    ∷ [])

abbrev pub thrown : Row
thrown = row (thrown_source ∷ []) ([]) ([]) 0 ((ev.Connect 1) ∷ [])

-- A hundred calls inside one another are the limit.
abbrev pub too_deep_source : Source
too_deep_source = sound (codes "/secure/master.c") (
    codes "void f() { f(); }\n"
    ++ codes "object connect() { return this_object(); }\n"
    ++ codes "int logon() { write(catch(f())); return 1; }\n") (
    (un.Fun 1 [] (Some (record { base = bw.Void; stars = 0 })) (codes "f") [] (record { line = 1; stmts = (stmts ((sm.Run 1 (tr.Call 1 (codes "f") tr.NoTree)) ∷ [])) }))
    ∷ (un.Fun 2 [] (Some (record { base = bw.Object; stars = 0 })) (codes "connect") [] (record { line = 2; stmts = (stmts ((sm.Return 2 (Some (tr.Call 2 (codes "this_object") tr.NoTree))) ∷ [])) }))
    ∷ (un.Fun 3 [] (Some (record { base = bw.Int; stars = 0 })) (codes "logon") [] (record {
      line = 3;
      stmts = (stmts (
          (sm.Run 3 (tr.Call 3 (codes "write") (trees ((tr.Catch 3 (tr.Call 3 (codes "f") tr.NoTree)) ∷ []))))
          ∷ (sm.Return 3 (Some (tr.Int 3 (pos 1))))
          ∷ []));
    }))
    ∷ [])

abbrev pub too_deep : Row
too_deep = row (too_deep_source ∷ []) ([]) ([]) 0 ((ev.Connect 1) ∷ [])

-- Integers have 64 bits.
abbrev pub overflow_source : Source
overflow_source = sound (codes "/secure/master.c") (
    codes "object connect() { return this_object(); }\n"
    ++ codes "int logon() { write(catch(9223372036854775807 + 1)); return 1; }\n") (
    (un.Fun 1 [] (Some (record { base = bw.Object; stars = 0 })) (codes "connect") [] (record { line = 1; stmts = (stmts ((sm.Return 1 (Some (tr.Call 1 (codes "this_object") tr.NoTree))) ∷ [])) }))
    ∷ (un.Fun 2 [] (Some (record { base = bw.Int; stars = 0 })) (codes "logon") [] (record {
      line = 2;
      stmts = (stmts (
          (sm.Run 2 (tr.Call 2 (codes "write") (trees ((tr.Catch 2 (tr.Binary 2 bo.Add (tr.Int 2 (pos 9223372036854775807)) (tr.Int 2 (pos 1)))) ∷ []))))
          ∷ (sm.Return 2 (Some (tr.Int 2 (pos 1))))
          ∷ []));
    }))
    ∷ [])

abbrev pub overflow : Row
overflow = row (overflow_source ∷ []) ([]) ([]) 0 ((ev.Connect 1) ∷ [])

-- Ranges, places from the end, and the difference of arrays.
abbrev pub ranges_source : Source
ranges_source = sound (codes "/secure/master.c") (
    codes "object connect() { return this_object(); }\n"
    ++ codes "int logon() { write(\"abcd\"[1..<2] + ({1, 2, 3})[<1] + sizeof(({1, 2, 1}) - ({1}))); return 1; }\n") (
    (un.Fun 1 [] (Some (record { base = bw.Object; stars = 0 })) (codes "connect") [] (record { line = 1; stmts = (stmts ((sm.Return 1 (Some (tr.Call 1 (codes "this_object") tr.NoTree))) ∷ [])) }))
    ∷ (un.Fun 2 [] (Some (record { base = bw.Int; stars = 0 })) (codes "logon") [] (record {
      line = 2;
      stmts = (stmts (
          (sm.Run 2 (tr.Call 2 (codes "write") (trees ((tr.Binary 2 bo.Add (tr.Binary 2 bo.Add (tr.Range 2 (tr.Text 2 (codes "abcd")) (tr.At ed.Front (tr.Int 2 (pos 1))) (tr.At ed.Back (tr.Int 2 (pos 2)))) (tr.Index 2 (tr.Array 2 (trees ((tr.Int 2 (pos 1)) ∷ (tr.Int 2 (pos 2)) ∷ (tr.Int 2 (pos 3)) ∷ []))) ed.Back (tr.Int 2 (pos 1)))) (tr.Call 2 (codes "sizeof") (trees ((tr.Binary 2 bo.Sub (tr.Array 2 (trees ((tr.Int 2 (pos 1)) ∷ (tr.Int 2 (pos 2)) ∷ (tr.Int 2 (pos 1)) ∷ []))) (tr.Array 2 (trees ((tr.Int 2 (pos 1)) ∷ [])))) ∷ [])))) ∷ []))))
          ∷ (sm.Return 2 (Some (tr.Int 2 (pos 1))))
          ∷ []));
    }))
    ∷ [])

abbrev pub ranges : Row
ranges = row (ranges_source ∷ []) ([]) ([]) 0 ((ev.Connect 1) ∷ [])

-- Of equal keys the later wins, at the place of the first.
abbrev pub mapping_source : Source
mapping_source = sound (codes "/secure/master.c") (
    codes "object connect() { return this_object(); }\n"
    ++ codes "int logon() { mapping m; mixed k, v; m = ([\"b\": 1, \"a\": 2]) + ([\"b\": 3]); foreach (k, v : m) write(k + v); return 1; }\n") (
    (un.Fun 1 [] (Some (record { base = bw.Object; stars = 0 })) (codes "connect") [] (record { line = 1; stmts = (stmts ((sm.Return 1 (Some (tr.Call 1 (codes "this_object") tr.NoTree))) ∷ [])) }))
    ∷ (un.Fun 2 [] (Some (record { base = bw.Int; stars = 0 })) (codes "logon") [] (record {
      line = 2;
      stmts = (stmts (
          (sm.Declares 2 (record { line = 2; base = bw.Mapping; ones = ((record { line = 2; stars = 0; name = (codes "m"); value = None }) ∷ []) }))
          ∷ (sm.Declares 2 (record { line = 2; base = bw.Mixed; ones = ((record { line = 2; stars = 0; name = (codes "k"); value = None }) ∷ (record { line = 2; stars = 0; name = (codes "v"); value = None }) ∷ []) }))
          ∷ (sm.Run 2 (tr.Assign 2 ao.Set (tr.Name 2 (codes "m")) (tr.Binary 2 bo.Add (tr.Mapping 2 (pairs (((tr.Text 2 (codes "b")), (tr.Int 2 (pos 1))) ∷ ((tr.Text 2 (codes "a")), (tr.Int 2 (pos 2))) ∷ []))) (tr.Mapping 2 (pairs (((tr.Text 2 (codes "b")), (tr.Int 2 (pos 3))) ∷ []))))))
          ∷ (sm.Foreach 2 (record { line = 2; type_name = None; name = (codes "k") }) (Some (record { line = 2; type_name = None; name = (codes "v") })) (tr.Name 2 (codes "m")) (sm.Run 2 (tr.Call 2 (codes "write") (trees ((tr.Binary 2 bo.Add (tr.Name 2 (codes "k")) (tr.Name 2 (codes "v"))) ∷ [])))))
          ∷ (sm.Return 2 (Some (tr.Int 2 (pos 1))))
          ∷ []));
    }))
    ∷ [])

abbrev pub mapping : Row
mapping = row (mapping_source ∷ []) ([]) ([]) 0 ((ev.Connect 1) ∷ [])

-- A format with widths, fill and a spelled array.
abbrev pub format_source : Source
format_source = sound (codes "/secure/master.c") (
    codes "object connect() { return this_object(); }\n"
    ++ codes "int logon() { printf(\"%-5s|%05d|%x|%O\\n\", \"ab\", -42, 255, ({1, \"x\"})); return 1; }\n") (
    (un.Fun 1 [] (Some (record { base = bw.Object; stars = 0 })) (codes "connect") [] (record { line = 1; stmts = (stmts ((sm.Return 1 (Some (tr.Call 1 (codes "this_object") tr.NoTree))) ∷ [])) }))
    ∷ (un.Fun 2 [] (Some (record { base = bw.Int; stars = 0 })) (codes "logon") [] (record {
      line = 2;
      stmts = (stmts (
          (sm.Run 2 (tr.Call 2 (codes "printf") (trees ((tr.Text 2 (codes "%-5s|%05d|%x|%O\n")) ∷ (tr.Text 2 (codes "ab")) ∷ (tr.Unary 2 uo.Neg (tr.Int 2 (pos 42))) ∷ (tr.Int 2 (pos 255)) ∷ (tr.Array 2 (trees ((tr.Int 2 (pos 1)) ∷ (tr.Text 2 (codes "x")) ∷ []))) ∷ []))))
          ∷ (sm.Return 2 (Some (tr.Int 2 (pos 1))))
          ∷ []));
    }))
    ∷ [])

abbrev pub format : Row
format = row (format_source ∷ []) ([]) ([]) 0 ((ev.Connect 1) ∷ [])

-- A text that is scanned.
abbrev pub scanned_source : Source
scanned_source = sound (codes "/secure/master.c") (
    codes "object connect() { return this_object(); }\n"
    ++ codes "int logon() { string a, b; int n; write(sscanf(\"give 3 coins\", \"%s %d %s\", a, n, b) + a + n + b); return 1; }\n") (
    (un.Fun 1 [] (Some (record { base = bw.Object; stars = 0 })) (codes "connect") [] (record { line = 1; stmts = (stmts ((sm.Return 1 (Some (tr.Call 1 (codes "this_object") tr.NoTree))) ∷ [])) }))
    ∷ (un.Fun 2 [] (Some (record { base = bw.Int; stars = 0 })) (codes "logon") [] (record {
      line = 2;
      stmts = (stmts (
          (sm.Declares 2 (record { line = 2; base = bw.String; ones = ((record { line = 2; stars = 0; name = (codes "a"); value = None }) ∷ (record { line = 2; stars = 0; name = (codes "b"); value = None }) ∷ []) }))
          ∷ (sm.Declares 2 (record { line = 2; base = bw.Int; ones = ((record { line = 2; stars = 0; name = (codes "n"); value = None }) ∷ []) }))
          ∷ (sm.Run 2 (tr.Call 2 (codes "write") (trees ((tr.Binary 2 bo.Add (tr.Binary 2 bo.Add (tr.Binary 2 bo.Add (tr.Sscanf 2 (tr.Text 2 (codes "give 3 coins")) (tr.Text 2 (codes "%s %d %s")) (trees ((tr.Name 2 (codes "a")) ∷ (tr.Name 2 (codes "n")) ∷ (tr.Name 2 (codes "b")) ∷ []))) (tr.Name 2 (codes "a"))) (tr.Name 2 (codes "n"))) (tr.Name 2 (codes "b"))) ∷ []))))
          ∷ (sm.Return 2 (Some (tr.Int 2 (pos 1))))
          ∷ []));
    }))
    ∷ [])

abbrev pub scanned : Row
scanned = row (scanned_source ∷ []) ([]) ([]) 0 ((ev.Connect 1) ∷ [])

-- The first number that the generator of seed 0 gives.
abbrev pub drawn_source : Source
drawn_source = sound (codes "/secure/master.c") (
    codes "object connect() { return this_object(); }\n"
    ++ codes "int logon() { write(random(10)); return 1; }\n") (
    (un.Fun 1 [] (Some (record { base = bw.Object; stars = 0 })) (codes "connect") [] (record { line = 1; stmts = (stmts ((sm.Return 1 (Some (tr.Call 1 (codes "this_object") tr.NoTree))) ∷ [])) }))
    ∷ (un.Fun 2 [] (Some (record { base = bw.Int; stars = 0 })) (codes "logon") [] (record {
      line = 2;
      stmts = (stmts (
          (sm.Run 2 (tr.Call 2 (codes "write") (trees ((tr.Call 2 (codes "random") (trees ((tr.Int 2 (pos 10)) ∷ []))) ∷ []))))
          ∷ (sm.Return 2 (Some (tr.Int 2 (pos 1))))
          ∷ []));
    }))
    ∷ [])

abbrev pub drawn : Row
drawn = row (drawn_source ∷ []) ([]) ([]) 0 ((ev.Connect 1) ∷ [])

-- Each of them gives its transcript.
pub record ValuesRows : Type 0 where
  pub alias_gives : Gives alias (codes "to 1 2\n9\n\nend\n")
  pub order_gives : Gives order (codes "to 1 4\n2315\nend\n")
  pub statements_gives : Gives statements (codes "to 1 9\n023yz785t\nclose 1\nend\n")
  pub zero_divisor_gives : Gives zero_divisor (codes "to 1 18\n*Division by zero\n\nend\n")
  pub thrown_gives : Gives thrown (codes "to 1 1\n5\nend\n")
  pub too_deep_gives : Gives too_deep (codes "to 1 20\n*Too deep recursion\n\nend\n")
  pub overflow_gives : Gives overflow (codes "to 1 10\n*Overflow\n\nend\n")
  pub ranges_gives : Gives ranges (codes "to 1 4\nbc31\nend\n")
  pub mapping_gives : Gives mapping (codes "to 1 4\nb3a2\nend\n")
  pub format_gives : Gives format (codes "to 1 28\nab   |-0042|ff|({ 1, \"x\" })\n\nend\n")
  pub scanned_gives : Gives scanned (codes "to 1 11\n3give3coins\nend\n")
  pub drawn_gives : Gives drawn (codes "to 1 1\n5\nend\n")
