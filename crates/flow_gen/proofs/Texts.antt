-- The text of a generated document, part by part.
use Rattle.std.proofs.Common.{◌≡◌, ℕ, ◌+◌, ◌<◌, ◌%◌, Bool, true, false, nat_eq, Option, Some, None, List, [], ◌∷◌, ◌++◌, map, codes, decimal, refl, sym, ap, ◌∙◌, append_assoc, eqb-true}
use Rattle.std.specs.Prelude.{is_some, option_map, option_and_then, ◌&&◌}
use Rattle.serde_json.specs.View.{items_of}
use Rattle.serde_json.specs.Written.{comma_if, compact_text, items_text}
use Rattle.flow_shape.specs.declared.Step.{Step}
use Rattle.flow_shape.specs.declared.Step.TheVariants as T
use Rattle.flow_doc.specs.Fields.{place_from}
use Rattle.flow_doc.proofs.OnLiterals.{documents_compute}
use Rattle.serde_json.specs.Data.{Data, string}
use Rattle.flow_print.specs.DocText.{Member, object_of, list_data, count, edge_data, step_data, doc_data, doc_text, doc_output}
use Rattle.flow_report.specs.Sinks.{name_of}
use Rattle.flow_gen.specs.Generated.{generated, generated_text, generated_names, generated_edges, generated_script, has_bodies}
use Rattle.flow_gen.proofs.Numbers.{rest, rest_more, own_is, own_not}
use Rattle.flow_gen.proofs.Places.{found_name}
use Rattle.flow_gen.specs.Texts.{if_own, put_text, puts_text, script_text, scripts_text, head_text, tail_text}

-- ---- a put

put_first : (k : ℕ) → k ≡ 0 → put_text k ≡ codes "{\"put\":\"src\",\"val\":0}"
unfolding documents_compute
put_first k e = rw e refl

put_later : (k : ℕ) → nat_eq k 0 ≡ false → put_text k ≡ codes "{\"put\":\"src\",\"tag\":" ++ (decimal k ++ (codes ",\"val\":" ++ (decimal k ++ codes "}")))
unfolding documents_compute
put_later k later = rw later refl

not_zero : (k : ℕ) → (k ≡ 0 → ⊥) → nat_eq k 0 ≡ false
not_zero k some = by_test (nat_eq k 0) refl
  where
    by_test : (b : Bool) → nat_eq k 0 ≡ b → b ≡ false
    by_test true e = absurd (some (eqb-true k 0 e))
    by_test false e = refl

pub adds_first : (old new : List ℕ) (k : ℕ) → k ≡ 0 → new ≡ old ++ codes "{\"put\":\"src\",\"val\":0}" → new ≡ old ++ put_text k
adds_first old new k e h = h ∙ ap (λ t. old ++ t) (sym (put_first k e))

pub adds_later : (old a b c d new : List ℕ) (k : ℕ) → (k ≡ 0 → ⊥) → a ≡ old ++ codes "{\"put\":\"src\",\"tag\":" → b ≡ a ++ decimal k → c ≡ b ++ codes ",\"val\":" → d ≡ c ++ decimal k → new ≡ d ++ codes "}" → new ≡ old ++ put_text k
adds_later old a b c d new k some p q r s t =
    let digits : List ℕ = decimal k in
    t ∙ ap (λ x. x ++ codes "}") (s ∙ ap (λ x. x ++ digits) (r ∙ ap (λ x. x ++ codes ",\"val\":") (q ∙ ap (λ x. x ++ digits) p)))
    ∙ joined old (codes "{\"put\":\"src\",\"tag\":") digits (codes ",\"val\":") digits (codes "}")
    ∙ ap (λ x. old ++ x) (sym (put_later k (not_zero k some)))
  where
    joined : (o v w x y z : List ℕ) → ((((o ++ v) ++ w) ++ x) ++ y) ++ z ≡ o ++ (v ++ (w ++ (x ++ (y ++ z))))
    joined o v w x y z =
        append_assoc (((o ++ v) ++ w) ++ x) y z ∙ append_assoc ((o ++ v) ++ w) x (y ++ z) ∙ append_assoc (o ++ v) w (x ++ (y ++ z)) ∙ append_assoc o v (w ++ (x ++ (y ++ z)))

-- ---- the steps of a caller

pub own_more : (old mid new : List ℕ) (later : Bool) (c k : ℕ) (ks : List ℕ) → k % 4 ≡ c → mid ≡ old ++ comma_if later → new ≡ mid ++ put_text k → new ++ puts_text true ks ≡ old ++ puts_text later (if_own c k ++ ks)
own_more old mid new later c k ks own p q =
    ap (λ t. t ++ puts_text true ks) (q ∙ ap (λ t. t ++ put_text k) p)
    ∙ append_assoc (old ++ comma_if later) (put_text k) (puts_text true ks) ∙ append_assoc old (comma_if later) (put_text k ++ puts_text true ks)
    ∙ ap (λ xs. old ++ puts_text later (xs ++ ks)) (sym (own_is c k own))

pub own_none : (old : List ℕ) (later : Bool) (c k : ℕ) (ks : List ℕ) → (k % 4 ≡ c → ⊥) → old ++ puts_text later ks ≡ old ++ puts_text later (if_own c k ++ ks)
own_none old later c k ks apart = ap (λ xs. old ++ puts_text later (xs ++ ks)) (sym (own_not c k apart))

-- one number more of a script
pub text_more : (n c k : ℕ) (before after' whole : List ℕ) (later next : Bool) → k < n → ((ks : List ℕ) → after' ++ puts_text next ks ≡ before ++ puts_text later (if_own c k ++ ks)) → before ++ puts_text later (rest n c k) ≡ whole → after' ++ puts_text next (rest n c (k + 1)) ≡ whole
text_more n c k before after' whole later next lt step h =
    step (rest n c (k + 1)) ∙ ap (λ xs. before ++ puts_text later xs) (sym (rest_more n c k lt)) ∙ h

-- ---- the whole document

steps_same : (shelf : List (List ℕ)) (steps : List Step) → map (step_data shelf generated_names) steps ≡ map (step_data [] generated_names) steps
steps_same shelf [] = refl
steps_same shelf (T.Put n port tag val ∷ steps) = ap (λ ds. step_data [] generated_names (T.Put n port tag val) ∷ ds) (steps_same shelf steps)
steps_same shelf (T.Act n ∷ steps) = ap (λ ds. step_data [] generated_names (T.Act n) ∷ ds) (steps_same shelf steps)
steps_same shelf (T.Wait ∷ steps) = ap (λ ds. step_data [] generated_names T.Wait ∷ ds) (steps_same shelf steps)
steps_same shelf (T.Cancel ∷ steps) = ap (λ ds. step_data [] generated_names T.Cancel ∷ ds) (steps_same shelf steps)

-- the steps of four callers, with the bracket after them, and between the head and the sinks
abbrev callers : List ℕ → List ℕ → List ℕ → List ℕ → List ℕ
callers a b c d = a ++ (codes ",[" ++ (b ++ (codes ",[" ++ (c ++ (codes ",[" ++ (d ++ codes "]"))))))

abbrev of_scripts : List ℕ → List ℕ → List ℕ → List ℕ → List ℕ
of_scripts a b c d = head_text ++ (callers a b c d ++ codes ",\"sinks\":[\"out\"]}")

abbrev together : List ℕ → List ℕ → List ℕ → List ℕ → List ℕ
together a b c d = a ++ (codes ",[" ++ (b ++ (codes ",[" ++ (c ++ (codes ",[" ++ d)))))

abbrev newline : List ℕ
newline = 10 ∷ []

-- the end after the parts
moved : (a rest tail later : List ℕ) → rest ++ tail ≡ later → (a ++ rest) ++ tail ≡ a ++ later
moved a rest tail later h = append_assoc a rest tail ∙ ap (λ t. a ++ t) h

together_line : (a b c d tail : List ℕ) → together a b c d ++ tail ≡ a ++ (codes ",[" ++ (b ++ (codes ",[" ++ (c ++ (codes ",[" ++ (d ++ tail))))))
together_line a b c d tail = moved a _ tail _ (moved (codes ",[") _ tail _ (moved b _ tail _ (moved (codes ",[") _ tail _ (moved c _ tail _ (moved (codes ",[") d tail _ refl)))))

callers_line : (a b c d tail : List ℕ) → callers a b c d ++ tail ≡ together a b c d ++ (93 ∷ tail)
callers_line a b c d tail =
    moved a _ tail _ (moved (codes ",[") _ tail _ (moved b _ tail _ (moved (codes ",[") _ tail _ (moved c _ tail _ (moved (codes ",[") _ tail _ (moved d (codes "]") tail (93 ∷ tail) refl))))))
    ∙ sym (together_line a b c d (93 ∷ tail))

of_scripts_line : (a b c d : List ℕ) → of_scripts a b c d ++ newline ≡ head_text ++ (together a b c d ++ tail_text)
of_scripts_line a b c d = moved head_text _ newline _ (append_assoc (callers a b c d) (codes ",\"sinks\":[\"out\"]}") newline ∙ callers_line a b c d (codes ",\"sinks\":[\"out\"]}\n"))

-- the document by the names of its bodies and the steps of its callers
abbrev named : List ℕ → List Member → Data
named name ms = object_of ((codes "name", string name) ∷ ms)

abbrev parts : List ℕ → List ℕ → List ℕ → List Data → List Data → List Data → List Data → Data
parts add mul neg s0 s1 s2 s3 =
    object_of ((codes "version", count 1)
    ∷ (
      codes "nodes",
      list_data (
          named (codes "src") ((codes "kind", string (codes "queue")) ∷ [])
          ∷ named (codes "pre") ((codes "kind", string (codes "function")) ∷ (codes "limit", count 4) ∷ (codes "body", string add) ∷ (codes "arg", count 1) ∷ [])
          ∷ named (codes "left") ((codes "kind", string (codes "function")) ∷ (codes "body", string mul) ∷ (codes "arg", count 3) ∷ [])
          ∷ named (codes "right") ((codes "kind", string (codes "function")) ∷ (codes "limit", count 1) ∷ (codes "body", string neg) ∷ [])
          ∷ named (codes "both") ((codes "kind", string (codes "join")) ∷ (codes "policy", string (codes "key")) ∷ (codes "ports", count 2) ∷ [])
          ∷ named (codes "out") ((codes "kind", string (codes "sequencer")) ∷ [])
          ∷ []),
    )
    ∷ (codes "edges", list_data (map (edge_data [] generated_names) generated_edges))
    ∷ (codes "callers", list_data (list_data s0 ∷ list_data s1 ∷ list_data s2 ∷ list_data s3 ∷ []))
    ∷ (codes "sinks", list_data (string (codes "out") ∷ []))
    ∷ [])

doc_parts : (shelf : List (List ℕ)) (add mul neg n : ℕ) →
    doc_data shelf (generated add mul neg n) ≡ parts (name_of shelf add) (name_of shelf mul) (name_of shelf neg) (map (step_data shelf generated_names) (generated_script n 0)) (map (step_data shelf generated_names) (generated_script n 1)) (map (step_data shelf generated_names) (generated_script n 2)) (map (step_data shelf generated_names) (generated_script n 3))
unfolding documents_compute
doc_parts shelf add mul neg n = refl

parts_text : (s0 s1 s2 s3 : List Data) → compact_text (parts (codes "add") (codes "mul") (codes "neg") s0 s1 s2 s3) ≡ of_scripts (items_text false (items_of s0)) (items_text false (items_of s1)) (items_text false (items_of s2)) (items_text false (items_of s3))
unfolding documents_compute
parts_text s0 s1 s2 s3 = refl

text_of : (shelf : List (List ℕ)) (add mul neg n : ℕ) → name_of shelf add ≡ codes "add" → name_of shelf mul ≡ codes "mul" → name_of shelf neg ≡ codes "neg" → doc_text shelf (generated add mul neg n) ≡ of_scripts (script_text n 0) (script_text n 1) (script_text n 2) (script_text n 3)
text_of shelf add mul neg n a m g =
    let same : parts (name_of shelf add) (name_of shelf mul) (name_of shelf neg) (of_caller shelf 0) (of_caller shelf 1) (of_caller shelf 2) (of_caller shelf 3) ≡ parts (codes "add") (codes "mul") (codes "neg") (of_caller [] 0) (of_caller [] 1) (of_caller [] 2) (of_caller [] 3) =
    rw (a, m, g, steps_same shelf (generated_script n 0), steps_same shelf (generated_script n 1), steps_same shelf (generated_script n 2), steps_same shelf (generated_script n 3)) refl in
    ap compact_text (doc_parts shelf add mul neg n ∙ same) ∙ parts_text (of_caller [] 0) (of_caller [] 1) (of_caller [] 2) (of_caller [] 3)
  where
    of_caller : List (List ℕ) → ℕ → List Data
    of_caller names c = map (step_data names generated_names) (generated_script n c)

output_of : (shelf : List (List ℕ)) (add mul neg n : ℕ) → name_of shelf add ≡ codes "add" → name_of shelf mul ≡ codes "mul" → name_of shelf neg ≡ codes "neg" → doc_output shelf (generated add mul neg n) ≡ head_text ++ (scripts_text n ++ tail_text)
output_of shelf add mul neg n a m g = ap (λ t. t ++ newline) (text_of shelf add mul neg n a m g) ∙ of_scripts_line (script_text n 0) (script_text n 1) (script_text n 2) (script_text n 3)

-- ---- the document that is found

-- the text of the document that is found
pub text_is : (shelf : List (List ℕ)) (n : ℕ) (text : List ℕ) → text ≡ head_text ++ (scripts_text n ++ tail_text) → has_bodies shelf ≡ true → generated_text shelf n ≡ Some text
text_is shelf n text is has = by_places (place_from 0 (codes "add") shelf) (place_from 0 (codes "mul") shelf) (place_from 0 (codes "neg") shelf) refl refl refl has
  where
    by_places : (a m g : Option ℕ) → place_from 0 (codes "add") shelf ≡ a → place_from 0 (codes "mul") shelf ≡ m → place_from 0 (codes "neg") shelf ≡ g → (is_some a && (is_some m && is_some g)) ≡ true →
        option_map (doc_output shelf) (option_and_then (λ add. option_and_then (λ mul. option_map (λ neg. generated add mul neg n) g) m) a) ≡ Some text
    by_places (Some a) (Some m) (Some g) p q r has =
        ap Some (output_of shelf a m g n (found_name (codes "add") shelf a p) (found_name (codes "mul") shelf m q) (found_name (codes "neg") shelf g r) ∙ sym is)
    by_places None m g p q r has = cc
    by_places (Some a) None g p q r has = cc
    by_places (Some a) (Some m) None p q r has = cc
