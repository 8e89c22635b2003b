-- What the words of a command line say.
use Rattle.std.specs.Prelude.{◌≡◌, ◌≢◌, ℕ, ◌<◌, ◌≤◌, IsTrue, codes, decimal, List, [], ◌∷◌, ◌++◌, length, map, Option, Some, None}
use Rattle.std.specs.List.{All, AllPairs}
use Rattle.std.specs.Str.{IsUtf8}
use Rattle.clap.specs.Words.{all_of, fault_of, first_of}
use Rattle.repl_types.specs.Name.{is_name}
use Rattle.run_words.specs.declared.opening.Opening.{Opening}
use Rattle.run_words.specs.declared.opening.Opening.TheVariants.{Copy, Servers}
use Rattle.run_words.specs.declared.opening.ServerWord.{ServerWord}
use Rattle.run_words.specs.Command.{rows, server_app, with_program}
use Rattle.run_words.specs.Limits.{server_limit, path_limit, least_cells, most_cells, usual_cells}

-- the path of a server that is kept in memory
abbrev pub map_path : List ℕ
map_path = codes ":map:"

-- the word of a server: `NAME=PATH`
abbrev pub word_of : ServerWord → List ℕ
word_of server = server.name ++ (codes "=" ++ server.path)

-- a path is 1 to 1,000 bytes of UTF-8
pub record IsPath (path : List ℕ) : Type 0 where
  pub some : 0 < length path
  pub short : length path ≤ path_limit
  pub utf8 : IsUtf8 path

-- a server has a name and a path
pub record IsServerWord (server : ServerWord) : Type 0 where
  pub name : IsTrue (is_name server.name)
  pub path : IsPath server.path

-- two servers of one run: they have different names, and the same path only if both are kept in memory
pub record GoTogether (first second : ServerWord) : Type 0 where
  pub names : first.name ≢ second.name
  pub paths : first.path ≡ second.path → first.path ≡ map_path

-- the servers of a run: there are 1 to 16, and any two of them go together
pub record AreServerWords (servers : List ServerWord) : Type 0 where
  pub some : 0 < length servers
  pub few : length servers ≤ server_limit
  pub each : All IsServerWord servers
  pub together : AllPairs GoTogether servers

-- a run has 16 to 1,048,576 cells
abbrev pub IsCellCount : ℕ → Type 0
IsCellCount cells = (least_cells ≤ cells) × (cells ≤ most_cells)

-- what a run may be asked to do
abbrev pub IsOpening : Opening → Type 0
IsOpening Copy = Unit {0}
IsOpening (Servers cells servers) = IsCellCount cells × AreServerWords servers

-- the text of `--cells` is the number's decimal digits; if there is no text, the number is the usual one
abbrev pub SaysCells : Option (List ℕ) → ℕ → Type 0
SaysCells None cells = cells ≡ usual_cells
SaysCells (Some text) cells = text ≡ decimal cells

-- the command takes the words, with the program's name before them, and reads this number of cells and the words of these
-- servers
pub record AreScriptWords (words : List (List ℕ)) (cells : ℕ) (servers : List ServerWord) : Type 0 where
  pub taken : fault_of server_app (with_program words) ≡ []
  pub option : SaysCells (first_of (codes "cells") (rows words)) cells
  pub values : all_of (codes "servers") (rows words) ≡ Some (map word_of servers)

-- the words say it: `copy` by the one word `copy`, and a script by the words that the command takes
abbrev pub Say : List (List ℕ) → Opening → Type 0
Say words Copy = words ≡ codes "copy" ∷ []
Say words (Servers cells servers) = AreScriptWords words cells servers

-- the words of a command line ask for this
pub record AreWordsOf (words : List (List ℕ)) (opening : Opening) : Type 0 where
  pub right : IsOpening opening
  pub spelled : Say words opening
