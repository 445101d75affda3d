-- The handshake response, in parts.
use Rattle.std.specs.Prelude.{ℕ, List, Option, None}
use Rattle.mysql_wire.specs.Form.{Form, ◌>>=◌, give}
use Rattle.mysql_wire.specs.Null.{null_string}
use Rattle.mysql_wire.specs.declared.int.RawInt.{RawInt}
use Rattle.mysql_auth.specs.Attributes.{Attribute}
use Rattle.mysql_auth.specs.HandshakeResponse.{scramble, database, plugin}
use Rattle.mysql_auth.specs.SslRequest.{ssl_request}
use Rattle.mysql_auth.specs.declared.handshake_response.HandshakeResponse.{HandshakeResponse}

-- the part before the attributes: the response without attributes and compression level
abbrev pub before_attributes : Form HandshakeResponse
before_attributes = do
  head ← ssl_request.form tt
  user ← null_string
  scramble_buf ← (scramble head).form tt
  db_name ← (database head).form tt
  auth_plugin ← (plugin head).form tt
  give (
      record {
        head = head;
        user = user;
        scramble_buf = scramble_buf;
        db_name = db_name;
        auth_plugin = auth_plugin;
        connect_attributes = None;
        zstd_level = None;
      }
      )

-- the same response with these attributes and this compression level
abbrev pub with_last : Option (List Attribute) → Option (RawInt ℕ ℕ) → HandshakeResponse → HandshakeResponse
with_last given level p = record p { connect_attributes = given; zstd_level = level }
