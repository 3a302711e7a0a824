-- What an expression does, by cases on its tree: operands and arguments from left to right.
use Rattle.std.specs.Prelude.{ℕ, suc, pos, List, [], ◌∷◌, length, cond, Option, Some, None}
use Rattle.lp_tree.specs.declared.operator.BinOp.{BinOp}
use Rattle.lp_tree.specs.declared.operator.BinOp.TheVariants as ops
use Rattle.lp_tree.specs.declared.operator.AssignOp.{AssignOp}
use Rattle.lp_tree.specs.declared.operator.AssignOp.TheVariants as sets
use Rattle.lp_tree.specs.declared.operator.Step.{Step as StepOf}
use Rattle.lp_tree.specs.declared.expr.Edge.TheVariants.{Front, Back}
use Rattle.lp_tree.specs.Trees.{Tree, Int, Text, Name, Paren, Array, Mapping, Call, EfunCall, ParentCall, NamedParentCall, Catch, Sscanf, Index, Range, CallOther, PostStep, PreStep, Unary, Cast, Binary, AndThen, OrElse, Cond, Assign, Sequence, Trees, NoTree, OneMore, Pairs, NoPair, OnePair, End as EndTree, Open, At}
use Rattle.lp_values.specs.declared.value.Value.{Value}
use Rattle.lp_values.specs.declared.value.Value.TheVariants as values
use Rattle.lp_instr.specs.declared.efun.Efun.TheVariants as efun
use Rattle.lp_instr.specs.declared.instr.EndKind.{EndKind}
use Rattle.lp_instr.specs.declared.instr.EndKind.TheVariants as kinds
use Rattle.lp_instr.specs.EfunList.{efun_named}
use Rattle.lp_language.specs.World.{World}
use Rattle.lp_language.specs.Course.{Scene, State, Course, Over, Internal, Parent, OfEfun, and_then, asks, catching, gives, zero_value}
use Rattle.lp_language.specs.Resolve.{Heritage, parent_with, parent_called}
use Rattle.lp_language.specs.Scope.{Names, Slot, OfLocal, OfGlobal, OfNothing, slot, Callee, AFunction, ASimul, AnEfun, Nobody, callee, as_efun}
use Rattle.lp_language.specs.Operations.{is_false, unary, binary, item, range, stepped, new_array, new_mapping, put_item, scan, local_of, with_local, global_of, with_global}

-- Where a text stands: the tree of the part, and where its function runs.
pub record Site : Type 0 where
  pub tree : Heritage
  pub scene : Scene

-- Variables. What a well-typed tree never holds reads as 0 and changes nothing.
abbrev pub read_slot : Scene → Slot → State → Value
read_slot c (OfLocal k) s = local_of s k
read_slot c (OfGlobal k) s = global_of c s k
read_slot c OfNothing s = zero_value

abbrev pub write_slot : Scene → Slot → Value → State → State
write_slot c (OfLocal k) v s = with_local s k v
write_slot c (OfGlobal k) v s = with_global c s k v
write_slot c OfNothing v s = s

-- Calls. A call of a simul efun is a call_other to the simul-efun object by its name, and so is `object->name(..)` to
-- its object.
abbrev pub call_other : Value → List ℕ → List Value → Scene → State → Course Value
call_other o name xs c s = asks (OfEfun efun.CallOther) (o ∷ values.Str name ∷ xs) c s

abbrev pub name_or_zero : Option (List ℕ) → Value
name_or_zero None = zero_value
name_or_zero (Some n) = values.Str n

abbrev pub simul_object : World → Value
simul_object w = name_or_zero w.simul

abbrev pub calls : Callee → List ℕ → List Value → Scene → State → Course Value
calls AFunction name xs c s = asks (Internal name) xs c s
calls ASimul name xs c s = call_other (simul_object s.world) name xs c s
calls (AnEfun e) name xs c s = asks (OfEfun e) xs c s
calls Nobody name xs c s = gives zero_value s

abbrev pub calls_parent : Option ℕ → List ℕ → List Value → Scene → State → Course Value
calls_parent None name xs c s = gives zero_value s
calls_parent (Some k) name xs c s = asks (Parent k name) xs c s

-- the operator of an assignment that has one
abbrev pub operator_of : AssignOp → Option BinOp
operator_of sets.Set = None
operator_of sets.Add = Some ops.Add
operator_of sets.Sub = Some ops.Sub
operator_of sets.Mul = Some ops.Mul
operator_of sets.Div = Some ops.Div
operator_of sets.Rem = Some ops.Rem
operator_of sets.And = Some ops.And
operator_of sets.Or = Some ops.Or
operator_of sets.Xor = Some ops.Xor
operator_of sets.Shl = Some ops.Shl
operator_of sets.Shr = Some ops.Shr
operator_of sets.AndThen = None
operator_of sets.OrElse = None

-- how an end of a range is given
abbrev pub kind_of_end : EndTree → EndKind
kind_of_end Open = kinds.Open
kind_of_end (At Front t) = kinds.Start
kind_of_end (At Back t) = kinds.Back

abbrev pub tree_count : Trees → ℕ
tree_count NoTree = 0
tree_count (OneMore t ts) = suc (tree_count ts)

abbrev pub pair_count : Pairs → ℕ
pair_count NoPair = 0
pair_count (OnePair k v ps) = suc (pair_count ps)

-- the values that a change gives: the new one, or the old one
abbrev pub the_new : Value → Value → Value
the_new old new = new

abbrev pub the_old : Value → Value → Value
the_old old new = old

-- how a changed place gets its value: from an operator with the value on its right side; from one step; or, for `&&=`
-- and `||=`, from the right side where that is needed, and else its own
abbrev pub by_operator : BinOp → Value → Value → State → Course Value
by_operator op v old s = Over (binary op old v s)

abbrev pub by_step : StepOf → Value → State → Course Value
by_step step old s = Over (stepped step old s)

abbrev pub where_true : (State → Course Value) → Value → State → Course Value
where_true right old s = cond (is_false s old) (gives old s) (right s)

abbrev pub where_false : (State → Course Value) → Value → State → Course Value
where_false right old s = cond (is_false s old) (right s) (gives old s)

-- a variable is read, changed and written
abbrev pub change_slot : Scene → Slot → (Value → State → Course Value) → (Value → Value → Value) → State → Course Value
change_slot c x f pick s = let old = read_slot c x s in and_then (f old s) (λ new s. gives (pick old new) (write_slot c x new s))

-- An assignment evaluates its right side first. A compound one then reads the place, applies its operator and writes;
-- `&&=` and `||=` read the place first.
abbrev pub assigns : Option BinOp → AssignOp → (State → Course Value) → (Value → State → Course Value) → ((Value → State → Course Value) → State → Course Value) → State → Course Value
assigns op sets.AndThen right write change s = change (where_true right) s
assigns op sets.OrElse right write change s = change (where_false right) s
assigns (Some b) op right write change s = and_then (right s) (λ v s. change (by_operator b v) s)
assigns None op right write change s = and_then (right s) write

abbrev mutual
  pub eval : Site → Names → Tree → State → Course Value
  eval c ns (Int line n) s = gives (values.Int n) s
  eval c ns (Text line t) s = gives (values.Str t) s
  eval c ns (Name line w) s = gives (read_slot c.scene (slot c.tree ns w) s) s
  eval c ns (Paren line e) s = eval c ns e s
  eval c ns (Array line es) s = and_then (eval_all c ns es s) (λ xs s. Over (new_array xs s))
  eval c ns (Mapping line ps) s = and_then (eval_pairs c ns ps s) (λ xs s. Over (new_mapping xs s))
  eval c ns (Call line name es) s = and_then (eval_all c ns es s) (λ xs s. calls (callee c.tree name) name xs c.scene s)
  eval c ns (EfunCall line name es) s = and_then (eval_all c ns es s) (λ xs s. calls (as_efun (efun_named name)) name xs c.scene s)
  eval c ns (ParentCall line name es) s = and_then (eval_all c ns es s) (λ xs s. calls_parent (parent_with c.tree name) name xs c.scene s)
  eval c ns (NamedParentCall line p name es) s = and_then (eval_all c ns es s) (λ xs s. calls_parent (parent_called c.tree p) name xs c.scene s)
  eval c ns (Catch line e) s = catching (eval c ns e s)
  -- the scan, then each place that is assigned
  eval c ns (Sscanf line e form places) s =
      and_then (eval c ns e s) (λ x s.
      and_then (eval c ns form s) (λ y s.
      and_then (Over (scan (tree_count places) x y s)) (λ vs s.
      and_then (write_all c ns places vs s) (λ n s. gives (values.Int (pos (length vs))) s))))
  eval c ns (Index line e edge i) s = and_then (eval c ns e s) (λ x s. and_then (eval c ns i s) (λ y s. Over (item edge x y s)))
  eval c ns (Range line e a b) s =
      and_then (eval c ns e s) (λ x s.
      and_then (eval_end c ns a s) (λ y s.
      and_then (eval_end c ns b s) (λ z s. Over (range (kind_of_end a) (kind_of_end b) x y z s))))
  eval c ns (CallOther line e name es) s = and_then (eval c ns e s) (λ o s. and_then (eval_all c ns es s) (λ xs s. call_other o name xs c.scene s))
  eval c ns (PostStep line step p) s = change c ns p (by_step step) the_old s
  eval c ns (PreStep line step p) s = change c ns p (by_step step) the_new s
  eval c ns (Unary line op e) s = and_then (eval c ns e s) (λ x s. Over (unary op x s))
  eval c ns (Cast line ty e) s = eval c ns e s
  eval c ns (Binary line op a b) s = and_then (eval c ns a s) (λ x s. and_then (eval c ns b s) (λ y s. Over (binary op x y s)))
  -- the last value evaluated
  eval c ns (AndThen line a b) s = and_then (eval c ns a s) (λ x s. cond (is_false s x) (gives x s) (eval c ns b s))
  eval c ns (OrElse line a b) s = and_then (eval c ns a s) (λ x s. cond (is_false s x) (eval c ns b s) (gives x s))
  eval c ns (Cond line a b d) s = and_then (eval c ns a s) (λ x s. cond (is_false s x) (eval c ns d s) (eval c ns b s))
  eval c ns (Assign line op p e) s = assigns (operator_of op) op (eval c ns e) (write c ns p) (λ f. change c ns p f the_new) s
  eval c ns (Sequence line es) s = eval_last c ns es zero_value s

  -- the values of a list
  pub eval_all : Site → Names → Trees → State → Course (List Value)
  eval_all c ns NoTree s = gives [] s
  eval_all c ns (OneMore e es) s = and_then (eval c ns e s) (λ x s. and_then (eval_all c ns es s) (λ xs s. gives (x ∷ xs) s))

  -- the last value of a list, or this one
  pub eval_last : Site → Names → Trees → Value → State → Course Value
  eval_last c ns NoTree v s = gives v s
  eval_last c ns (OneMore e es) v s = and_then (eval c ns e s) (λ x s. eval_last c ns es x s)

  -- keys and values by turns
  pub eval_pairs : Site → Names → Pairs → State → Course (List Value)
  eval_pairs c ns NoPair s = gives [] s
  eval_pairs c ns (OnePair k v ps) s =
      and_then (eval c ns k s) (λ x s.
      and_then (eval c ns v s) (λ y s.
      and_then (eval_pairs c ns ps s) (λ xs s. gives (x ∷ y ∷ xs) s)))

  -- an end of a range that is not given counts for nothing
  pub eval_end : Site → Names → EndTree → State → Course Value
  eval_end c ns Open s = gives zero_value s
  eval_end c ns (At edge e) s = eval c ns e s

  -- a value is written to a place, whose container and index are evaluated just before
  pub write : Site → Names → Tree → Value → State → Course Value
  write c ns (Name line w) v s = gives v (write_slot c.scene (slot c.tree ns w) v s)
  write c ns (Index line e edge i) v s = and_then (eval c ns e s) (λ x s. and_then (eval c ns i s) (λ y s. Over (put_item edge x y v s)))
  write c ns _ v s = gives v s

  -- a place is read, changed and written, and gives one of the old and the new value
  pub change : Site → Names → Tree → (Value → State → Course Value) → (Value → Value → Value) → State → Course Value
  change c ns (Name line w) f pick s = change_slot c.scene (slot c.tree ns w) f pick s
  change c ns (Index line e edge i) f pick s =
      and_then (eval c ns e s) (λ x s.
      and_then (eval c ns i s) (λ y s.
      and_then (Over (item edge x y s)) (λ old s.
      and_then (f old s) (λ new s.
      and_then (Over (put_item edge x y new s)) (λ v s. gives (pick old v) s)))))
  change c ns _ f pick s = gives zero_value s

  -- values are written to places, as far as there are values
  pub write_all : Site → Names → Trees → List Value → State → Course Value
  write_all c ns NoTree vs s = gives zero_value s
  write_all c ns (OneMore p ps) [] s = gives zero_value s
  write_all c ns (OneMore p ps) (v ∷ vs) s = and_then (write c ns p v s) (λ x s. write_all c ns ps vs s)
