-- What a node passes and keeps, kind by kind.
use Rattle.std.proofs.Common.{◌≡◌, ℕ, true, false, cond, List, [], length, get_or, refl, sym, ap}
use Rattle.flow_shape.specs.declared.Kind.{Kind}
use Rattle.flow_shape.specs.declared.Kind.TheVariants as K
use Rattle.flow_shape.specs.Kinds.{inputs}
use Rattle.flow_machine.specs.Bodies.{Meanings}
use Rattle.flow_mean.specs.Maps.{TagMap, run_from, past_run, join_of}
use Rattle.flow_mean.specs.Meaning.{is_sequencer, passed_by}
use Rattle.flow_mean.specs.Determinate.{is_orderly, is_function, is_key_join}
use Rattle.flow_mean.specs.Passing.{kept_by}
use Rattle.flow_mean.proofs.Brought.{maps-all}

module _ (meanings : Meanings) where
  pub passed-join : (k : Kind) (maps : List TagMap) → is_key_join k ≡ true → length maps ≡ inputs k → join_of maps ≡ passed_by meanings k (λ port. get_or maps port [])
  passed-join (K.KeyJoin ports) maps h l = ap join_of (sym (maps-all maps ports l))
  passed-join k maps h l = cc

  pub passed-first : (k : Kind) (at : ℕ → TagMap) → is_function k ≡ true → passed_by meanings k (λ port. at 0) ≡ passed_by meanings k at
  passed-first (K.Function reject limit body arg) at h = refl
  passed-first k at h = cc

  pub passed-other : (k : Kind) (at : ℕ → TagMap) → is_orderly k ≡ true → is_sequencer k ≡ false → is_key_join k ≡ false → is_function k ≡ false → at 0 ≡ passed_by meanings k at
  passed-other (K.Buffer capacity) at o a b c = refl
  passed-other (K.Queue capacity) at o a b c = refl
  passed-other K.Priority at o a b c = refl
  passed-other k at o a b c = cc

  pub passed-run : (k : Kind) (at : ℕ → TagMap) → is_sequencer k ≡ true → run_from 0 (at 0) ≡ passed_by meanings k at
  passed-run K.Sequencer at h = refl
  passed-run k at h = cc

pub kept-run : (k : Kind) (m : TagMap) → is_sequencer k ≡ true → past_run 0 m ≡ kept_by k m
kept-run k m h = sym (ap (λ b. cond b (past_run 0 m) []) h)

pub kept-none : (k : Kind) (m : TagMap) → is_sequencer k ≡ false → [] ≡ kept_by k m
kept-none k m h = sym (ap (λ b. cond b (past_run 0 m) []) h)
