-- Rows on which function a call reaches: files, events and the transcript that a run of them has.
use Rattle.std.specs.Prelude.{pos, [], ◌∷◌, ◌++◌, Some, codes}
use Rattle.lp_tree.specs.Trees as tr
use Rattle.lp_tree.specs.Trees.{trees}
use Rattle.lp_tree.specs.Statements as sm
use Rattle.lp_tree.specs.Units as un
use Rattle.lp_tree.specs.declared.keyword.Base.TheVariants as bw
use Rattle.lp_tree.specs.declared.keyword.Modifier.TheVariants as mo
use Rattle.lp_tree.specs.declared.operator.BinOp.TheVariants as bo
use Rattle.lp_events.specs.declared.event.Event.TheVariants as ev
use Rattle.lp_meaning_rows.specs.Rows.{Source, Row, stmts, sound, row, Gives}

-- A static function is called from its own object alone, a protected one by no call from outside.
abbrev pub callable_source_1 : Source
callable_source_1 = sound (codes "/s.c") (codes "static int f() { return 3; } protected int g() { return 4; } int h() { return this_object()->f() * 10 + this_object()->g(); }\n") (
    (un.Fun 1 (mo.Static ∷ []) (Some (record { base = bw.Int; stars = 0 })) (codes "f") [] (record { line = 1; stmts = (stmts ((sm.Return 1 (Some (tr.Int 1 (pos 3)))) ∷ [])) }))
    ∷ (un.Fun 1 (mo.Protected ∷ []) (Some (record { base = bw.Int; stars = 0 })) (codes "g") [] (record { line = 1; stmts = (stmts ((sm.Return 1 (Some (tr.Int 1 (pos 4)))) ∷ [])) }))
    ∷ (un.Fun 1 [] (Some (record { base = bw.Int; stars = 0 })) (codes "h") [] (record { line = 1; stmts = (stmts ((sm.Return 1 (Some (tr.Binary 1 bo.Add (tr.Binary 1 bo.Mul (tr.CallOther 1 (tr.Call 1 (codes "this_object") tr.NoTree) (codes "f") tr.NoTree) (tr.Int 1 (pos 10))) (tr.CallOther 1 (tr.Call 1 (codes "this_object") tr.NoTree) (codes "g") tr.NoTree)))) ∷ [])) }))
    ∷ [])

abbrev pub callable_source_2 : Source
callable_source_2 = sound (codes "/secure/master.c") (
    codes "object connect() { return this_object(); }\n"
    ++ codes "int logon() { write(\"/s\"->f() + \",\" + \"/s\"->g() + \",\" + \"/s\"->h()); return 1; }\n") (
    (un.Fun 1 [] (Some (record { base = bw.Object; stars = 0 })) (codes "connect") [] (record { line = 1; stmts = (stmts ((sm.Return 1 (Some (tr.Call 1 (codes "this_object") tr.NoTree))) ∷ [])) }))
    ∷ (un.Fun 2 [] (Some (record { base = bw.Int; stars = 0 })) (codes "logon") [] (record {
      line = 2;
      stmts = (stmts (
          (sm.Run 2 (tr.Call 2 (codes "write") (trees ((tr.Binary 2 bo.Add (tr.Binary 2 bo.Add (tr.Binary 2 bo.Add (tr.Binary 2 bo.Add (tr.CallOther 2 (tr.Text 2 (codes "/s")) (codes "f") tr.NoTree) (tr.Text 2 (codes ","))) (tr.CallOther 2 (tr.Text 2 (codes "/s")) (codes "g") tr.NoTree)) (tr.Text 2 (codes ","))) (tr.CallOther 2 (tr.Text 2 (codes "/s")) (codes "h") tr.NoTree)) ∷ []))))
          ∷ (sm.Return 2 (Some (tr.Int 2 (pos 1))))
          ∷ []));
    }))
    ∷ [])

abbrev pub callable : Row
callable = row (callable_source_1 ∷ callable_source_2 ∷ []) ([]) ([]) 0 ((ev.Connect 1) ∷ [])

-- A call from outside goes to the shadow, one of the shadow to the object, an internal one stays.
abbrev pub shadowed_source_1 : Source
shadowed_source_1 = sound (codes "/secure/master.c") (
    codes "int query_allow_shadow(object o) { return 1; }\n"
    ++ codes "object connect() { return this_object(); }\n"
    ++ codes "int logon() { write(\"/w\"->on() + \",\" + \"/v\"->f() + \",\" + \"/v\"->h()); return 1; }\n") (
    (un.Fun 1 [] (Some (record { base = bw.Int; stars = 0 })) (codes "query_allow_shadow") ((record { line = 1; type_name = (Some (record { base = bw.Object; stars = 0 })); name = (codes "o") }) ∷ []) (record { line = 1; stmts = (stmts ((sm.Return 1 (Some (tr.Int 1 (pos 1)))) ∷ [])) }))
    ∷ (un.Fun 2 [] (Some (record { base = bw.Object; stars = 0 })) (codes "connect") [] (record { line = 2; stmts = (stmts ((sm.Return 2 (Some (tr.Call 2 (codes "this_object") tr.NoTree))) ∷ [])) }))
    ∷ (un.Fun 3 [] (Some (record { base = bw.Int; stars = 0 })) (codes "logon") [] (record {
      line = 3;
      stmts = (stmts (
          (sm.Run 3 (tr.Call 3 (codes "write") (trees ((tr.Binary 3 bo.Add (tr.Binary 3 bo.Add (tr.Binary 3 bo.Add (tr.Binary 3 bo.Add (tr.CallOther 3 (tr.Text 3 (codes "/w")) (codes "on") tr.NoTree) (tr.Text 3 (codes ","))) (tr.CallOther 3 (tr.Text 3 (codes "/v")) (codes "f") tr.NoTree)) (tr.Text 3 (codes ","))) (tr.CallOther 3 (tr.Text 3 (codes "/v")) (codes "h") tr.NoTree)) ∷ []))))
          ∷ (sm.Return 3 (Some (tr.Int 3 (pos 1))))
          ∷ []));
    }))
    ∷ [])

abbrev pub shadowed_source_2 : Source
shadowed_source_2 = sound (codes "/v.c") (codes "int f() { return 1; } int h() { return f(); }\n") (
    (un.Fun 1 [] (Some (record { base = bw.Int; stars = 0 })) (codes "f") [] (record { line = 1; stmts = (stmts ((sm.Return 1 (Some (tr.Int 1 (pos 1)))) ∷ [])) }))
    ∷ (un.Fun 1 [] (Some (record { base = bw.Int; stars = 0 })) (codes "h") [] (record { line = 1; stmts = (stmts ((sm.Return 1 (Some (tr.Call 1 (codes "f") tr.NoTree))) ∷ [])) }))
    ∷ [])

abbrev pub shadowed_source_3 : Source
shadowed_source_3 = sound (codes "/w.c") (codes "int on() { return shadow(load_object(\"/v\")); } int f() { return 10 + \"/v\"->f(); }\n") (
    (un.Fun 1 [] (Some (record { base = bw.Int; stars = 0 })) (codes "on") [] (record { line = 1; stmts = (stmts ((sm.Return 1 (Some (tr.Call 1 (codes "shadow") (trees ((tr.Call 1 (codes "load_object") (trees ((tr.Text 1 (codes "/v")) ∷ []))) ∷ []))))) ∷ [])) }))
    ∷ (un.Fun 1 [] (Some (record { base = bw.Int; stars = 0 })) (codes "f") [] (record { line = 1; stmts = (stmts ((sm.Return 1 (Some (tr.Binary 1 bo.Add (tr.Int 1 (pos 10)) (tr.CallOther 1 (tr.Text 1 (codes "/v")) (codes "f") tr.NoTree)))) ∷ [])) }))
    ∷ [])

abbrev pub shadowed : Row
shadowed = row (shadowed_source_1 ∷ shadowed_source_2 ∷ shadowed_source_3 ∷ []) ([]) ([]) 0 ((ev.Connect 1) ∷ [])

-- Without leave of the master there is no shadow.
abbrev pub refused_source_1 : Source
refused_source_1 = sound (codes "/secure/master.c") (
    codes "object connect() { return this_object(); }\n"
    ++ codes "int logon() { write(\"/w\"->on() + \",\" + \"/v\"->f() + \",\" + \"/v\"->h()); return 1; }\n") (
    (un.Fun 1 [] (Some (record { base = bw.Object; stars = 0 })) (codes "connect") [] (record { line = 1; stmts = (stmts ((sm.Return 1 (Some (tr.Call 1 (codes "this_object") tr.NoTree))) ∷ [])) }))
    ∷ (un.Fun 2 [] (Some (record { base = bw.Int; stars = 0 })) (codes "logon") [] (record {
      line = 2;
      stmts = (stmts (
          (sm.Run 2 (tr.Call 2 (codes "write") (trees ((tr.Binary 2 bo.Add (tr.Binary 2 bo.Add (tr.Binary 2 bo.Add (tr.Binary 2 bo.Add (tr.CallOther 2 (tr.Text 2 (codes "/w")) (codes "on") tr.NoTree) (tr.Text 2 (codes ","))) (tr.CallOther 2 (tr.Text 2 (codes "/v")) (codes "f") tr.NoTree)) (tr.Text 2 (codes ","))) (tr.CallOther 2 (tr.Text 2 (codes "/v")) (codes "h") tr.NoTree)) ∷ []))))
          ∷ (sm.Return 2 (Some (tr.Int 2 (pos 1))))
          ∷ []));
    }))
    ∷ [])

abbrev pub refused_source_2 : Source
refused_source_2 = sound (codes "/v.c") (codes "int f() { return 1; } int h() { return f(); }\n") (
    (un.Fun 1 [] (Some (record { base = bw.Int; stars = 0 })) (codes "f") [] (record { line = 1; stmts = (stmts ((sm.Return 1 (Some (tr.Int 1 (pos 1)))) ∷ [])) }))
    ∷ (un.Fun 1 [] (Some (record { base = bw.Int; stars = 0 })) (codes "h") [] (record { line = 1; stmts = (stmts ((sm.Return 1 (Some (tr.Call 1 (codes "f") tr.NoTree))) ∷ [])) }))
    ∷ [])

abbrev pub refused_source_3 : Source
refused_source_3 = sound (codes "/w.c") (codes "int on() { return shadow(load_object(\"/v\")); } int f() { return 10 + \"/v\"->f(); }\n") (
    (un.Fun 1 [] (Some (record { base = bw.Int; stars = 0 })) (codes "on") [] (record { line = 1; stmts = (stmts ((sm.Return 1 (Some (tr.Call 1 (codes "shadow") (trees ((tr.Call 1 (codes "load_object") (trees ((tr.Text 1 (codes "/v")) ∷ []))) ∷ []))))) ∷ [])) }))
    ∷ (un.Fun 1 [] (Some (record { base = bw.Int; stars = 0 })) (codes "f") [] (record { line = 1; stmts = (stmts ((sm.Return 1 (Some (tr.Binary 1 bo.Add (tr.Int 1 (pos 10)) (tr.CallOther 1 (tr.Text 1 (codes "/v")) (codes "f") tr.NoTree)))) ∷ [])) }))
    ∷ [])

abbrev pub refused : Row
refused = row (refused_source_1 ∷ refused_source_2 ∷ refused_source_3 ∷ []) ([]) ([]) 0 ((ev.Connect 1) ∷ [])

-- A parent's call reaches the child's function, but stays with the parent's private one; `::` goes to the parent.
abbrev pub inner_source_1 : Source
inner_source_1 = sound (codes "/p.c") (codes "int f() { return 1; } private int h() { return 3; } int g() { return f() * 10 + h(); }\n") (
    (un.Fun 1 [] (Some (record { base = bw.Int; stars = 0 })) (codes "f") [] (record { line = 1; stmts = (stmts ((sm.Return 1 (Some (tr.Int 1 (pos 1)))) ∷ [])) }))
    ∷ (un.Fun 1 (mo.Private ∷ []) (Some (record { base = bw.Int; stars = 0 })) (codes "h") [] (record { line = 1; stmts = (stmts ((sm.Return 1 (Some (tr.Int 1 (pos 3)))) ∷ [])) }))
    ∷ (un.Fun 1 [] (Some (record { base = bw.Int; stars = 0 })) (codes "g") [] (record { line = 1; stmts = (stmts ((sm.Return 1 (Some (tr.Binary 1 bo.Add (tr.Binary 1 bo.Mul (tr.Call 1 (codes "f") tr.NoTree) (tr.Int 1 (pos 10))) (tr.Call 1 (codes "h") tr.NoTree)))) ∷ [])) }))
    ∷ [])

abbrev pub inner_source_2 : Source
inner_source_2 = sound (codes "/c.c") (
    codes "inherit \"/p\";\n"
    ++ codes "int f() { return 2 + ::f(); } int h() { return 9; }\n") (
    (un.Inherit 1 (codes "/p"))
    ∷ (un.Fun 2 [] (Some (record { base = bw.Int; stars = 0 })) (codes "f") [] (record { line = 2; stmts = (stmts ((sm.Return 2 (Some (tr.Binary 2 bo.Add (tr.Int 2 (pos 2)) (tr.ParentCall 2 (codes "f") tr.NoTree)))) ∷ [])) }))
    ∷ (un.Fun 2 [] (Some (record { base = bw.Int; stars = 0 })) (codes "h") [] (record { line = 2; stmts = (stmts ((sm.Return 2 (Some (tr.Int 2 (pos 9)))) ∷ [])) }))
    ∷ [])

abbrev pub inner_source_3 : Source
inner_source_3 = sound (codes "/secure/master.c") (
    codes "object connect() { return this_object(); }\n"
    ++ codes "int logon() { write(\"/c\"->g() + \",\" + \"/p\"->g()); return 1; }\n") (
    (un.Fun 1 [] (Some (record { base = bw.Object; stars = 0 })) (codes "connect") [] (record { line = 1; stmts = (stmts ((sm.Return 1 (Some (tr.Call 1 (codes "this_object") tr.NoTree))) ∷ [])) }))
    ∷ (un.Fun 2 [] (Some (record { base = bw.Int; stars = 0 })) (codes "logon") [] (record {
      line = 2;
      stmts = (stmts (
          (sm.Run 2 (tr.Call 2 (codes "write") (trees ((tr.Binary 2 bo.Add (tr.Binary 2 bo.Add (tr.CallOther 2 (tr.Text 2 (codes "/c")) (codes "g") tr.NoTree) (tr.Text 2 (codes ","))) (tr.CallOther 2 (tr.Text 2 (codes "/p")) (codes "g") tr.NoTree)) ∷ []))))
          ∷ (sm.Return 2 (Some (tr.Int 2 (pos 1))))
          ∷ []));
    }))
    ∷ [])

abbrev pub inner : Row
inner = row (inner_source_1 ∷ inner_source_2 ∷ inner_source_3 ∷ []) ([]) ([]) 0 ((ev.Connect 1) ∷ [])

-- Functions of the simul-efun object stand in place of efuns.
abbrev pub simul_source_1 : Source
simul_source_1 = sound (codes "/p.c") (codes "void go() { write(hi() + strlen(\"ab\") + efun::strlen(\"ab\")); }\n") (
    (un.Fun 1 [] (Some (record { base = bw.Void; stars = 0 })) (codes "go") [] (record { line = 1; stmts = (stmts ((sm.Run 1 (tr.Call 1 (codes "write") (trees ((tr.Binary 1 bo.Add (tr.Binary 1 bo.Add (tr.Call 1 (codes "hi") tr.NoTree) (tr.Call 1 (codes "strlen") (trees ((tr.Text 1 (codes "ab")) ∷ [])))) (tr.EfunCall 1 (codes "strlen") (trees ((tr.Text 1 (codes "ab")) ∷ [])))) ∷ [])))) ∷ [])) }))
    ∷ [])

abbrev pub simul_source_2 : Source
simul_source_2 = sound (codes "/secure/master.c") (
    codes "string get_simul_efun() { return \"/simul\"; }\n"
    ++ codes "object connect() { return this_object(); }\n"
    ++ codes "int logon() { \"/p\"->go(); return 1; }\n") (
    (un.Fun 1 [] (Some (record { base = bw.String; stars = 0 })) (codes "get_simul_efun") [] (record { line = 1; stmts = (stmts ((sm.Return 1 (Some (tr.Text 1 (codes "/simul")))) ∷ [])) }))
    ∷ (un.Fun 2 [] (Some (record { base = bw.Object; stars = 0 })) (codes "connect") [] (record { line = 2; stmts = (stmts ((sm.Return 2 (Some (tr.Call 2 (codes "this_object") tr.NoTree))) ∷ [])) }))
    ∷ (un.Fun 3 [] (Some (record { base = bw.Int; stars = 0 })) (codes "logon") [] (record {
      line = 3;
      stmts = (stmts (
          (sm.Run 3 (tr.CallOther 3 (tr.Text 3 (codes "/p")) (codes "go") tr.NoTree))
          ∷ (sm.Return 3 (Some (tr.Int 3 (pos 1))))
          ∷ []));
    }))
    ∷ [])

abbrev pub simul_source_3 : Source
simul_source_3 = sound (codes "/simul.c") (
    codes "string hi() { return \"sim\"; }\n"
    ++ codes "int strlen(string s) { return 99; }\n") (
    (un.Fun 1 [] (Some (record { base = bw.String; stars = 0 })) (codes "hi") [] (record { line = 1; stmts = (stmts ((sm.Return 1 (Some (tr.Text 1 (codes "sim")))) ∷ [])) }))
    ∷ (un.Fun 2 [] (Some (record { base = bw.Int; stars = 0 })) (codes "strlen") ((record { line = 2; type_name = (Some (record { base = bw.String; stars = 0 })); name = (codes "s") }) ∷ []) (record { line = 2; stmts = (stmts ((sm.Return 2 (Some (tr.Int 2 (pos 99)))) ∷ [])) }))
    ∷ [])

abbrev pub simul : Row
simul = row (simul_source_1 ∷ simul_source_2 ∷ simul_source_3 ∷ []) ([]) ([]) 0 ((ev.Connect 1) ∷ [])

-- Each of them gives its transcript.
pub record CallsRows : Type 0 where
  pub callable_gives : Gives callable (codes "to 1 6\n0,0,30\nend\n")
  pub shadowed_gives : Gives shadowed (codes "to 1 6\n1,11,1\nend\n")
  pub refused_gives : Gives refused (codes "to 1 5\n0,1,1\nend\n")
  pub inner_gives : Gives inner (codes "to 1 5\n33,13\nend\n")
  pub simul_gives : Gives simul (codes "to 1 6\nsim992\nend\n")
