-- Requests: three frames each.
use Rattle.std.specs.Prelude.{◌≡◌, ℕ, List, ◌++◌}
use Rattle.request_frames.specs.Frames.{IsFrame, IsKept}
use Rattle.request_frames.specs.declared.request.Request.{Request as KeptRequest}

-- what a request holds
pub record Request : Type 0 where
  pub words : List ℕ
  pub query : List ℕ
  -- the script or the certificate, and nothing where there is none
  pub side : List ℕ

-- the text is the frames of the request, one after another
pub record IsRequest (text : List ℕ) (request : Request) : Type 0 where
  pub words : List ℕ
  pub query : List ℕ
  pub side : List ℕ
  pub words_frame : IsFrame words request.words
  pub query_frame : IsFrame query request.query
  pub side_frame : IsFrame side request.side
  pub parts : text ≡ words ++ (query ++ side)

-- the text begins with a request
pub record HasRequest (text : List ℕ) : Type 0 where
  pub front : List ℕ
  pub request : Request
  pub rest : List ℕ
  pub is_request : IsRequest front request
  pub parts : text ≡ front ++ rest

-- what was kept of it
pub record IsKeptRequest (request : Request) (kept : KeptRequest) : Type 0 where
  pub words : IsKept 4096 request.words kept.words
  pub query : IsKept 65536 request.query kept.query
  pub side : IsKept 67108864 request.side kept.side
