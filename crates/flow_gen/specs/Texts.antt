-- The parts of the generated document's text.
use Rattle.std.specs.Prelude.{ℕ, ◌%◌, Bool, false, if◌then◌else◌, nat_eq, List, [], ◌∷◌, ◌++◌, map, codes}
use Rattle.serde_json.specs.View.{items_of}
use Rattle.serde_json.specs.Written.{compact_text, items_text}
use Rattle.flow_print.specs.DocText.{step_data}
use Rattle.flow_gen.specs.Generated.{generated_names, generated_put, generated_script}

-- a step of a caller
abbrev pub put_text : ℕ → List ℕ
put_text k = compact_text (step_data [] generated_names (generated_put k))

-- the steps of a caller, with the closing bracket
abbrev pub script_text : ℕ → ℕ → List ℕ
script_text n c = items_text false (items_of (map (step_data [] generated_names) (generated_script n c)))

-- the number where it is the caller's
abbrev pub if_own : ℕ → ℕ → List ℕ
if_own c k = if nat_eq (k % 4) c then k ∷ [] else []

-- the steps of these numbers, with the closing bracket; a comma stands before the first where a step is there before
abbrev pub puts_text : Bool → List ℕ → List ℕ
puts_text later ks = items_text later (items_of (map (step_data [] generated_names) (map generated_put ks)))

-- all before the first caller's steps
abbrev pub head_text : List ℕ
head_text = codes "{\"version\":1,\"nodes\":[{\"name\":\"src\",\"kind\":\"queue\"},{\"name\":\"pre\",\"kind\":\"function\",\"limit\":4,\"body\":\"add\",\"arg\":1},{\"name\":\"left\",\"kind\":\"function\",\"body\":\"mul\",\"arg\":3},{\"name\":\"right\",\"kind\":\"function\",\"limit\":1,\"body\":\"neg\"},{\"name\":\"both\",\"kind\":\"join\",\"policy\":\"key\",\"ports\":2},{\"name\":\"out\",\"kind\":\"sequencer\"}],\"edges\":[{\"from\":\"src\",\"to\":\"pre\"},{\"from\":\"pre\",\"to\":\"left\"},{\"from\":\"pre\",\"to\":\"right\"},{\"from\":\"left\",\"to\":\"both\"},{\"from\":\"right\",\"to\":\"both\",\"port\":1},{\"from\":\"both\",\"to\":\"out\"}],\"callers\":[["

-- all after the last caller's steps
abbrev pub tail_text : List ℕ
tail_text = codes "],\"sinks\":[\"out\"]}\n"

-- the steps of all callers
abbrev pub scripts_text : ℕ → List ℕ
scripts_text n = script_text n 0 ++ (codes ",[" ++ (script_text n 1 ++ (codes ",[" ++ (script_text n 2 ++ (codes ",[" ++ script_text n 3)))))
